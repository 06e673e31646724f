pub mod Reply
pub mod Steps
