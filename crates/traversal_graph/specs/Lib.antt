pub mod Builds
pub mod Candidates
pub mod Fans
pub mod Numbered
pub mod Nodes
pub mod Drafts
pub mod Neighbours
pub mod Relations
