-- Numbers, current rows, chains, locks and owners after any step: `links_by_moves`, `links_by_commands`.
pub mod Chains
pub mod Replaced
pub mod Locks
pub mod Numbers
pub mod Owners
pub mod Single
pub mod Rewrites
pub mod Takes
pub mod Begins
pub mod Points
pub mod Finishes
pub mod Kept
pub mod NewRows
pub mod Laid
pub mod Engines
