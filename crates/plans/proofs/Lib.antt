pub mod Gathering
pub mod Dues
pub mod Fine
