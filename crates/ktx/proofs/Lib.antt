pub mod Answers
pub mod NoEffect
pub mod Sized
pub mod Unique
pub mod Whole
