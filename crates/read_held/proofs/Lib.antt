pub mod Holding
pub mod Copying
pub mod Searching
pub mod Halving
