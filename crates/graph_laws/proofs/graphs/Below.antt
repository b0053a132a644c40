-- Lemmas of crates below this one that crates above it cite too, passed on.
pub use Rattle.history_laws.proofs.frames.Commands.{commands_on_one}
pub use Rattle.history_laws.proofs.frames.Marks.{other_covered}
pub use Rattle.history_laws.proofs.tables.Rows.{graph_here, graph_kept, letter_cut, letter_put, same_some, stack-key}
pub use Rattle.history_laws.proofs.tables.Rows.{stack_cut, stack_here, text_or_not}
