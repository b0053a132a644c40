pub mod Counts
pub mod Work
pub mod Rolls
pub mod Polls
pub mod Bound
pub mod Full
pub mod Exists
pub mod Turned
