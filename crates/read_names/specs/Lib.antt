pub mod Reached
pub mod Names
