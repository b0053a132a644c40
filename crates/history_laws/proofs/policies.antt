-- Where each row's policy comes from, after any step: `moves_fit_policies`, `commands_fit_policies`.
pub mod Calm
pub mod Heard
pub mod Moves
pub mod Fits
