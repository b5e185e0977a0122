pub mod Page
pub mod Scripts
pub mod Same
