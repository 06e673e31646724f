pub mod Replies
pub mod Spans
pub mod Dates
