pub mod Hosts
pub mod Back
