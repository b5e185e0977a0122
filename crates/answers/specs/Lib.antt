pub mod Answers
pub mod Seen
pub mod Written
pub mod Views
pub mod Within
