pub mod Places
pub mod Names
pub mod Standing
pub mod Rule
pub mod Steps
pub mod Closing
