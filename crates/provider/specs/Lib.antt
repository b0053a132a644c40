pub mod Same
pub mod Table
pub mod Cloud
pub mod Changes
pub mod Calls
pub mod Moves
