pub mod Address
pub mod Views
pub mod Written
