-- The rows of every stack fit its graph after each move, `fit_by_moves`, and each command, `fit_by_commands`.
pub mod Below
pub mod Own
pub mod Laid
pub mod Rewrites
pub mod Moves
pub mod Finish
pub mod Kept
