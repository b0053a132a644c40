-- Which candidates for edges of a plan are kept: `edges_fit`.
pub mod Keeping
pub mod ItemNames
pub mod Members
pub mod Ranks
