pub mod Putting
pub mod Spelled
