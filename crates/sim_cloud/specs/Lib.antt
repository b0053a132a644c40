pub mod Holding
pub mod Settings
pub mod Rule
pub mod Conduct
pub mod Shown
pub mod Sound
pub mod Simulated
