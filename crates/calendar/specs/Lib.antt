pub mod Gregorian
pub mod Converter
pub mod Reply
pub mod ThereAndBack
