pub mod Points
pub mod Numbers
pub mod Runs
