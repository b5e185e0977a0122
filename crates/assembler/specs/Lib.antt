pub mod Texts
pub mod Assembled
