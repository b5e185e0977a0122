pub mod Fresh
pub mod Planned
