pub mod Answers
pub mod Halving
pub mod Ranges
pub mod Unique
pub mod Whole
