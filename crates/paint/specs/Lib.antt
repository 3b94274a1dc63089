pub mod Paint
pub mod Sheet
