mod LineSteps
pub mod LineLaws
pub mod Corners
