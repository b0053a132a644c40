pub mod Codes
pub mod Checks
pub mod Environments
pub mod Applied
