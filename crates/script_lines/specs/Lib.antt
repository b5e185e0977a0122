pub mod Words
pub mod Operands
pub mod Forms
pub mod Reading
pub mod Messages
