pub mod Few
pub mod Readings
pub mod Places
