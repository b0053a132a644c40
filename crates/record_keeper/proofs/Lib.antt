pub mod Bare
pub mod Moments
