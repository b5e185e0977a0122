pub mod Sizes
pub mod Pages
pub mod Rows
pub mod Words
pub mod Back
pub mod Whole
