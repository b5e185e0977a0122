pub mod Changes
pub mod Turns
pub mod Replies
pub mod Together
