pub mod Bounds
pub mod Same
