pub mod Words
pub mod Before
pub mod Runs
