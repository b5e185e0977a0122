pub mod Limits
pub mod Step
pub mod Turn
pub mod Acts
pub mod Laws
pub mod Script
pub mod Tells
pub mod Same
