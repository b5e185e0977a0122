pub mod Lines
pub mod Heads
pub mod Settings
pub mod Views
pub mod Written
pub mod Unwritten
