pub mod Rear
