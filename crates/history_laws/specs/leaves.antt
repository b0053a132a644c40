pub mod Leaves
pub mod Closings
