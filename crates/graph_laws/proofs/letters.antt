-- Letters that aren't stale name ready nodes after any step: `letters_moved`, `letters_laid`, `letters_kept`.
pub mod Below
pub mod Onward
pub mod Sent
pub mod Finished
pub mod Commands
pub mod Moves
pub mod Engines
