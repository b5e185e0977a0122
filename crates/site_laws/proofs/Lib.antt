pub mod Bytes
pub mod Barred
pub mod Short
pub mod Oracles
