pub mod Leaks
pub mod Verdicts
