-- Words of crates below this one that crates above it cite too, passed on.
pub use Rattle.history_laws.specs.frames.Laws.{stack_of}
