-- What the proofs of `exports_other` cite.
pub mod Rooms
