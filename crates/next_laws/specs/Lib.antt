pub mod OneTurn
pub mod Worn
pub mod Range
pub mod Suits
pub mod HasTurn
pub mod Fits
pub mod Found
