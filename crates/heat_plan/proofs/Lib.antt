pub mod Decimals
pub mod NamesLemmas
pub mod Parts
pub mod OrderLemmas
pub mod OneItem
pub mod Searched
