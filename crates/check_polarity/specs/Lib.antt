pub mod Earlier
pub mod Facts
