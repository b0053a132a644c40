pub mod Finds
pub mod Placed
pub mod Unchanged
