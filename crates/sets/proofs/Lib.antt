pub mod SetWords
pub mod Laid
pub mod Inserting
pub mod Front
pub mod Standing
