pub mod AnyFlags
pub mod Header
pub mod Inner
pub mod NoEffect
pub mod Numbers
pub mod OneNumber
pub mod Reading
