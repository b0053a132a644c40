pub mod Lists
pub mod Beginnings
pub mod TrieLemmas
pub mod WalkLemmas
pub mod GrowLemmas
pub mod FinderLemmas
pub mod MarkLemmas
pub mod FirstCursors
