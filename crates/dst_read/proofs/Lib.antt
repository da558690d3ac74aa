mod Turns
pub mod RecordLaws
pub mod Back
