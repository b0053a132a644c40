pub mod Stops
pub mod Lengths
pub mod Weights
