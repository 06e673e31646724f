pub mod Lengths
pub mod Existing
pub mod ThereAndBack
pub mod ClosedForms
pub mod Steps
