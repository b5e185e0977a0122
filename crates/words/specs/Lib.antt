pub mod Numerals
pub mod Hex
pub mod Scans
