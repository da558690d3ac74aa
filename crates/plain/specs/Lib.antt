-- What the plain engine's two calls leave (Plain), and what is proved of it: that it is what the sweep leaves (Engines).
pub mod Plain
pub mod PlainLaws
pub mod Engines
pub mod Examples
pub mod Found
pub mod WorkLaws
pub mod WayLaws
