pub mod Scripts
pub mod Queues
pub mod Windows
pub mod Same
