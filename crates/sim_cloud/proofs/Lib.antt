pub mod Places
pub mod Kept
pub mod Attributes
pub mod Effects
pub mod Clauses
pub mod Inventories
