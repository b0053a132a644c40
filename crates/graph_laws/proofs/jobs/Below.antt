-- Lemmas of crates below this one that crates above it cite too, passed on.
pub use Rattle.graph_laws.proofs.letters.Commands.{Lain, lain, letters_laid}
pub use Rattle.graph_laws.proofs.letters.Engines.{letters_kept}
pub use Rattle.graph_laws.proofs.letters.Finished.{ready_still}
pub use Rattle.graph_laws.proofs.letters.Moves.{letters_moved}
pub use Rattle.graph_laws.proofs.letters.Onward.{sent_found}
pub use Rattle.graph_laws.proofs.letters.Sent.{failed_to, failure_comes, release_comes, released_to}
pub use Rattle.history_laws.proofs.links.Engines.{links_by_engines}
pub use Rattle.history_laws.proofs.links.Kept.{links_by_moves}
pub use Rattle.history_laws.proofs.links.Laid.{links_by_commands}
