-- Theorems that rest on definitions of specs/, apart from them so that a wrong definition is refused for what it says.
pub mod Merged
pub mod Sections
pub mod FillSections
pub mod Pieces
pub mod RowsRise
pub mod Counts
pub mod Gathered
pub mod Stitches
pub mod SweepLaws
pub mod Theorems
pub mod Drawn
