-- What the proofs of `exports_fill` cite.
pub mod Listings
