-- Lemmas of crates below this one that crates above it cite too, passed on.
pub use Rattle.history_laws.proofs.headline.Below.{could_else, could_here, laid_uncalling, token_or_not}
pub use Rattle.history_laws.proofs.headline.Empty.{empty_is_sound}
pub use Rattle.history_laws.proofs.headline.Items.{All-among}
pub use Rattle.history_laws.proofs.headline.Once.{possible_before}
pub use Rattle.history_laws.proofs.headline.Steps.{quiet_restart}
