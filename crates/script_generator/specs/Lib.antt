pub mod Resources
pub mod Script
pub mod Texts
pub mod Rising
