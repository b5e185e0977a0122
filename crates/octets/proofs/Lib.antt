pub mod Options
pub mod Fronts
pub mod Numbers
pub mod Digits
pub mod Puts
