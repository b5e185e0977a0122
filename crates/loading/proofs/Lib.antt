pub mod Beginning
pub mod Places
