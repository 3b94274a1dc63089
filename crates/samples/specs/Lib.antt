pub mod Draw
pub mod File
pub mod Sums
