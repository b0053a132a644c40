pub mod Payloads
pub mod Readings
pub mod Shown
pub mod Openings
pub mod Faults
pub mod Unique
pub mod Lawful
