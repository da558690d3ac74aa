pub mod Turns
pub mod Chains
pub mod Rings
pub mod ByMarks
