pub mod Held
pub mod Rows
pub mod Answers
pub mod Unchanged
