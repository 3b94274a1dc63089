pub mod Laid
pub mod Painted
pub mod Sheets
