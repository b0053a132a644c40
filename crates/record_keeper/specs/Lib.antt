pub mod Shown
pub mod Laws
pub mod Calls
pub mod Nothing
