-- Laws for the proofs here.
pub mod Lines
