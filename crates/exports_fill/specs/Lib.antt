-- What the contracts of `exports_fill` cite.
pub mod Fills
