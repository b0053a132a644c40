-- Lemmas of crates below this one that crates above it cite too, passed on.
pub use Rattle.history_laws.proofs.frames.Commands.{commands_on_one}
pub use Rattle.history_laws.proofs.frames.Engines.{apart_from, on_enlisted, on_restarted, on_stopped}
pub use Rattle.history_laws.proofs.frames.OnOne.{moves_on_one}
pub use Rattle.history_laws.proofs.frames.Others.{other_rows}
pub use Rattle.history_laws.proofs.links.Points.{passed_done}
