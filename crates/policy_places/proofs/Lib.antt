pub mod Places
pub mod Leaves
pub mod Held
pub mod Past
pub mod Codes
