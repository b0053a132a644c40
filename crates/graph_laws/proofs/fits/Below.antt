-- Lemmas of crates below this one that crates above it cite too, passed on.
pub use Rattle.graph_laws.proofs.marks.Engines.{marks_by_engines, pasts_by_engines}
pub use Rattle.graph_laws.proofs.marks.Kept.{marks_by_moves}
pub use Rattle.graph_laws.proofs.marks.Laid.{marks_by_commands, pasts_by_commands}
pub use Rattle.graph_laws.proofs.marks.Pasts.{pasts_by_moves}
