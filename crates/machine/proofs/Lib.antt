pub mod Runs
pub mod Sound
pub mod Turns
