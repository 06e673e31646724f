pub mod Handing
pub mod Spanning
