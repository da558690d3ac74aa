-- The mathematics of the crate's functions.
pub mod Signs
pub mod Loops
pub mod Chains
pub mod Walks
pub mod Shortcut
