-- What the contracts of `stroke` cite (Running, RunningAnswers, Closing), and what is proved of it.
pub mod Running
pub mod RunningAnswers
pub mod Closing
pub mod RunningLaws
pub mod PassCorners
pub mod Ks
