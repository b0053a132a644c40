pub mod CaseLemmas
pub mod KeepLemmas
