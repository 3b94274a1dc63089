pub mod Calls
pub mod Inner
pub mod Numbers
pub mod Picture
pub mod Refusals
