pub mod Values
pub mod Rows
pub mod Answers
pub mod Outcomes
pub mod From
