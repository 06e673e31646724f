pub mod Certified
pub mod Listed
pub mod ByCode
pub mod Literals
pub mod Vetted
