pub mod Room
pub mod Readers
