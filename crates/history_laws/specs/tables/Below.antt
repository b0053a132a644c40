-- Words of crates below this one that crates above it cite too, passed on.
pub use Rattle.step_relation.specs.Tells.{IsGone, TellsStack, deleted, never}
