pub mod Orders
pub mod Choices
pub mod Layouts
pub mod Answers
pub use Rattle.step_reads.specs.Work
pub use Rattle.step_parts.specs.Rooms
pub use Rattle.step_parts.specs.Turns
