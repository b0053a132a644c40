pub mod Tables
pub mod Breaks
pub mod Fillings
pub mod Logs
pub mod Replays
pub mod Done
pub mod Moments
pub mod Parts
