pub mod Known
pub mod Stops
pub mod Lengths
