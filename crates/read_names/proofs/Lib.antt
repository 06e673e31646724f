pub mod Own
pub mod Linked
pub mod Named
