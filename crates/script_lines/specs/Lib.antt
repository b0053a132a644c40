pub mod Words
pub mod Misreads
pub mod Heads
pub mod Behind
pub mod BodyKeys
pub mod Requested
pub mod Readings
