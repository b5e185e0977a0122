pub mod Requests
pub mod Written
pub mod Views
