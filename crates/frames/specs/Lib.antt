pub mod Heads
pub mod Views
