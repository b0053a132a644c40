-- Lemmas of crates below this one that crates above it cite too, passed on.
pub use Rattle.graph_laws.proofs.graphs.Commands.{graphs_laid}
pub use Rattle.graph_laws.proofs.graphs.Engines.{graphs_kept}
pub use Rattle.graph_laws.proofs.graphs.Moves.{graphs_moved}
pub use Rattle.graph_laws.proofs.jobs.Below.{letters_kept, letters_laid, letters_moved, links_by_commands, links_by_engines}
pub use Rattle.graph_laws.proofs.jobs.Below.{links_by_moves, ready_still, sent_found}
pub use Rattle.graph_laws.proofs.jobs.Commands.{jobs_laid}
pub use Rattle.graph_laws.proofs.jobs.Engines.{jobs_kept}
pub use Rattle.graph_laws.proofs.jobs.Moves.{jobs_moved}
