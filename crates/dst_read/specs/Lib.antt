-- What the contracts of `dst_read` cite (Names, Record, Reading, Answers; Lifted), what its theorems say (Told), and what is proved of it.
pub mod Names
pub mod Record
pub mod Reading
pub mod Answers
pub mod Lifted
pub mod Told
pub mod LiftedLaws
pub mod ReadingLaws
pub mod Examples
pub mod Unread
pub mod Mark
