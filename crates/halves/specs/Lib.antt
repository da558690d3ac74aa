-- What the two halves of a column answer as calls of their own (Answers), what their contracts cite besides (Sewing), and what is proved of them.
pub mod Answers
pub mod Sewing
pub mod SewingLaws
pub mod CallLaws
pub mod Joined
