pub mod Weights
pub mod Places
pub mod Listed
pub mod Apart
pub mod Numbered
pub mod Rewrites
pub mod Fronts
pub mod Meant
