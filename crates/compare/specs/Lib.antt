pub mod Alike
pub mod Answers
pub mod Sent
