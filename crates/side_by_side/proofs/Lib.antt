pub mod Sides
pub mod Wired
pub mod Both
