pub mod TableAnswers
pub mod PartAnswers
pub mod Declared
mod Formats
