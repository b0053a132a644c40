-- Lemmas of crates below this one that crates above it cite too, passed on.
pub use Rattle.next_laws.proofs.Worn.{quiet_not_worn}
