-- Lemmas of crates below this one that crates above it cite too, passed on.
pub use Rattle.history_laws.proofs.agrees.Called.{could_else, could_here}
pub use Rattle.history_laws.proofs.agrees.Laid.{laid_uncalling}
pub use Rattle.history_laws.proofs.agrees.Tokens.{token_or_not}
