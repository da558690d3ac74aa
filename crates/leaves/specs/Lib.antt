-- What the contracts of `leaves::checked` cite; the leaves themselves are defined in the crate numbers.
pub mod Answer
