-- Document 01's limits, in one place, and what is proved of them.
pub mod Limits
pub mod LimitsLaws
