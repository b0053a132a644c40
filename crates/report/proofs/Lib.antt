pub mod Parts
pub mod Backwards
pub mod Currents
