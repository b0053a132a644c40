pub mod Changes
pub mod Names
pub mod Kinds
pub mod Registries
pub mod Shipped
