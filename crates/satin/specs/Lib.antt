-- What the contracts of `satin` cite (Passed), and what is proved of it.
pub mod Passed
pub mod PassedLaws
pub mod Underlay
pub mod UnderlayLaws
