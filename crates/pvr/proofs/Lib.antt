pub mod Answers
pub mod AnyFlags
pub mod NoEffect
pub mod OneNumber
pub mod Unique
