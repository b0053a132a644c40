-- Lemmas of crates below this one that crates above it cite too, passed on.
pub use Rattle.graph_laws.proofs.graphs.Below.{commands_on_one}
