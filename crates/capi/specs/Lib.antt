pub mod Fields
pub mod Ktx
pub mod Level
pub mod Plate
