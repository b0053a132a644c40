mod Counts
pub mod Prefixes
mod PlacesLemmas
mod Views
mod Drawing
mod Taking
mod Raising
mod Opening
pub mod NamesLemmas
mod Splitting
mod Joining
mod Passes
pub mod Callers
mod Pairs
mod Ending
