pub mod Paths
pub mod Flaws
pub mod Definitions
pub mod Catalogs
pub mod Counts
