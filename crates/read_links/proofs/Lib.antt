pub mod Starting
pub mod Searching
pub mod Names
pub mod Finding
