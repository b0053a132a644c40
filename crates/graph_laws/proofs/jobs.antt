-- Jobs fit their rows and nodes after any step: `jobs_moved`, `jobs_laid`, `jobs_kept`.
pub mod Below
pub mod Onward
pub mod Steps
pub mod Begun
pub mod Told
pub mod Finished
pub mod Taken
pub mod Commands
pub mod Engines
pub mod Moves
