pub mod Hexes
pub mod Back
