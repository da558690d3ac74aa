-- Laws that the proofs share.
pub mod DigitSteps
pub mod Near
pub mod Total
pub mod Tried
pub mod CastEnds
pub mod OrderTests
pub mod Range
