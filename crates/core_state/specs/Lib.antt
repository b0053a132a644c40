pub mod Graphs
pub mod State
pub mod Changes
pub mod Applies
pub mod Reads
