-- The stitches along the walks of a meander, point by point (Trail), and what is proved of them.
pub mod Trail
pub mod Parts
pub mod Runs
pub mod Along
pub mod Whole
