pub mod Skips
pub mod Putting
pub mod Short
pub mod Back
