-- Theorems that rest on definitions of specs/, apart from them so that a wrong definition is refused for what it says.
pub mod Ways
pub mod Theorems
