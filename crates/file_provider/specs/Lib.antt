pub mod Names
pub mod Cards
pub mod Faults
pub mod Shows
