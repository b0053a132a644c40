-- Words of crates below this one that crates above it cite too, passed on.
pub use Rattle.bound_laws.specs.Full.{IsFullWork}
pub use Rattle.book.specs.Below.{Enlists, Stops}
