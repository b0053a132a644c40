pub mod Beginnings
pub mod Callings
