pub mod Numbers
pub mod Texts
pub mod Places
pub mod Families
pub mod Tables
