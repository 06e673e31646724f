pub mod Areas
pub mod Match
pub mod Inserting
pub mod Last
pub mod Combined
pub mod Drawing
