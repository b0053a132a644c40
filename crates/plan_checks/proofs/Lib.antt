pub mod Members
pub mod Places
pub mod Edges
pub mod Alike
pub mod Orders
pub mod Searches
