-- Lemmas of crates below this one that crates above it cite too, passed on.
pub use Rattle.history_laws.proofs.agrees.Ends.{failed_end, released_end, released_state, rows_in, sent_to}
pub use Rattle.history_laws.proofs.agrees.Laid.{laid_end, laid_state}
pub use Rattle.history_laws.proofs.links.Points.{passed_done}
pub use Rattle.next_laws.proofs.WorkBelow.{possible_before}
