-- Marks and pasts of all stacks fit after any step: `marks_by_moves`, `marks_by_commands`, `marks_by_engines`.
pub mod Below
pub mod Rows
pub mod Own
pub mod Jobs
pub mod Moves
pub mod Fails
pub mod Finish
pub mod Kept
pub mod Engines
pub mod Laid
pub mod Pasts
pub mod Cases
