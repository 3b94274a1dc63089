pub mod Block
pub mod Block2bpp
pub mod Block4bpp
pub mod BlockRow
pub mod Column
pub mod Lanes
