pub mod Made
pub mod Names
