pub mod ChangeLemmas
pub mod Listed
pub mod Softs
pub mod Untruncated
