-- What each table has after a write, and the one target of a node: `target_once`.
pub mod Tables
pub mod Rows
pub mod Alike
pub mod Targets
pub mod Points
pub mod Frame
pub mod Facts
pub mod Puts
pub mod Ordered
pub mod Fresh
pub mod Once
