pub mod Laws
pub mod Oracle
