pub mod Sameness
pub mod Lists
pub mod Conversions
pub mod Puts
pub mod Searches
pub mod Orders
