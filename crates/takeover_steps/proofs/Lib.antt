pub mod EngineLemmas
pub mod RelayLemmas
pub mod TurnLemmas
