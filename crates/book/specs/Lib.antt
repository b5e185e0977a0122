pub mod Records
pub mod Lines
pub mod Reading
pub mod Ranges
pub mod Putting
pub mod Found
