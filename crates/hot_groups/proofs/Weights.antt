-- A part weighs less than the whole.
pub use Rattle.hot_functions.proofs.Weights.{weight-item, weight-member}

pub ruleset for_walks = (weight-item, weight-member)
