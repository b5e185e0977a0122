pub mod Rows
pub mod Storage
pub mod Tables
