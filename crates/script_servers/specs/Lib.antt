pub mod Told
pub mod Replies
pub mod Serving
pub mod Views
pub mod Rooms
pub mod Family
