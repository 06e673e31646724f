pub mod Exprs
pub mod Guards
pub mod Draws
pub mod Whole
