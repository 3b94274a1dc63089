pub mod Between
pub mod Inner
pub mod Needed
pub mod Summed
pub mod Texel
