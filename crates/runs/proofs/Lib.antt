pub mod Sending
pub mod Halves
pub mod Weights
pub mod Chaining
pub mod Moments
pub mod Exactly
