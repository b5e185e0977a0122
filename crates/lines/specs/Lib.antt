pub mod Lines
pub mod Heads
pub mod Views
pub mod NamedLines
