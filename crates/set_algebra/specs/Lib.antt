pub mod Private
pub mod Combined
