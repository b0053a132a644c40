pub mod Quotes
pub mod Pieces
pub mod Digits
pub mod Keys
pub mod LineEnds
