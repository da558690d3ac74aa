-- What the code of the call goes by (Stopped), and what is proved of it.
pub mod Stopped
pub mod StoppedLaws
pub mod PathLaws
pub mod Visits
