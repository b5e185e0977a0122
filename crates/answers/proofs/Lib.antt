pub mod Sites
pub mod Digits
pub mod Back
pub mod Limited
