pub mod Parts
pub mod Mapped
pub mod Entries
pub mod Functions
pub mod Right
