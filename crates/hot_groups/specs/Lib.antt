pub mod Codes
pub mod Groups
pub mod Forms
pub mod Numbers
pub mod References
pub mod Sums
pub mod Checks
pub mod Plain
