pub mod Rows
pub mod Sites
pub mod Answers
pub mod Picked
