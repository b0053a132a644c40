pub mod Engines
pub mod Relays
pub use Rattle.step_ends.specs.Answers
pub use Rattle.step_ends.specs.Broken
pub use Rattle.step_ends.specs.Lost
