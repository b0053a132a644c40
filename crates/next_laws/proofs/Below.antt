-- Lemmas of crates below this one that crates above it cite too, passed on.
pub use Rattle.history_laws.proofs.tables.Facts.{named_fits}
pub use Rattle.history_laws.proofs.tables.Fresh.{fresh_of_newest, item_of}
pub use Rattle.history_laws.proofs.tables.Rows.{same_some, stack-key}
