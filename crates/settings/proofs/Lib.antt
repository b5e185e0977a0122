pub mod Places
pub mod Cuts
pub mod Turning
pub mod Naming
pub mod Unwriting
pub mod Fine
pub mod Back
