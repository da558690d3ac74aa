pub mod Scans
pub mod Split
pub mod Stripe
