pub mod Places
pub mod TokenOrder
pub mod Rows
pub mod Findings
pub mod Strangers
