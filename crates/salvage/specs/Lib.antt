-- Outlines that arrive broken: which corners are dropped and why, what is left, and what is proved of it.
pub mod Ring
pub mod Salvage
pub mod RingLaws
pub mod Clean
pub mod OutlineLaws
pub mod Theorems
pub mod Examples
