-- What sewing reads and leaves (Sewing), and what is proved of it.
pub mod Sewing
pub mod LinkLaws
pub mod RowLaws
pub mod LinkedLaws
pub mod SewLaws
pub mod Tatami
pub mod Within
