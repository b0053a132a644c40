pub mod Payloads
pub mod Telling
pub mod Leavings
pub mod Fitting
pub mod Opened
pub mod Keeping
