-- Words of crates below this one that crates above it cite too, passed on.
pub use Rattle.takeover_steps.specs.Lost.{IsOfUnknownSize}
pub use Rattle.takeover_steps.specs.Engines.{Enlists, Stops}
