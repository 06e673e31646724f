pub mod Reply
pub mod Whole
