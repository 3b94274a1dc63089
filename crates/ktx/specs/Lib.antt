pub mod Header
pub mod Inner
pub mod NoEffect
pub mod Numbers
pub mod Picture
pub mod Reading
