pub mod Calls
pub mod Inner
pub mod Levels
pub mod Numbers
pub mod Ranges
pub mod Refusals
