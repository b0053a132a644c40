pub mod Ends
pub mod Streaming
pub mod Cuts
pub mod Nexts
pub mod Runs
pub mod Takings
