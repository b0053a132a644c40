pub mod Rows
pub mod Chains
pub mod Keys
pub mod Found
pub mod Locks
pub mod Links
pub mod Folds
pub mod Runs
