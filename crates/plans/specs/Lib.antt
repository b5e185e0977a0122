pub mod Plans
pub mod Agendas
pub mod Fits
pub mod Reading
