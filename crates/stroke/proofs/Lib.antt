mod PassSteps
pub mod Closing
