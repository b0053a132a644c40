pub mod Forms
pub mod References
pub mod Places
pub mod Walk
