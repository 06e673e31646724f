pub mod Checks
pub mod Replies
