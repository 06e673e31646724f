pub mod Check
pub mod Reply
