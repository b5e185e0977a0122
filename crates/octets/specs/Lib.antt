pub mod Classes
pub mod Fronts
pub mod Numbers
pub mod Buffers
pub mod Texts
pub mod Answers
