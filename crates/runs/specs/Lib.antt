pub mod Events
pub mod Chains
pub mod Books
pub mod Exact
