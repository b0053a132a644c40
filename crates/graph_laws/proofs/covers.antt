-- No open node is forgotten after any step: `covers_moved`, `covers_laid`, `covers_kept`.
pub mod Below
pub mod Carried
pub mod Steps
pub mod Begun
pub mod Told
pub mod Taken
pub mod Finished
pub mod Commands
pub mod Engines
pub mod Moves
pub mod Cases
