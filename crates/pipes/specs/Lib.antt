pub mod Faults
pub mod Carries
pub mod Serving
