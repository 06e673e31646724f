pub mod Query
pub mod Refusal
pub mod Demand1
pub mod Demand2
pub mod Demand3
pub mod Cases
pub mod External
