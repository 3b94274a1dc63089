pub mod Bits
pub mod Checks
pub mod Count
pub mod Finite
pub mod Sum
pub mod Tab
