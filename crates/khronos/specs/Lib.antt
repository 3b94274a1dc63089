pub mod Agrees
pub mod Khronos
pub mod Storage
