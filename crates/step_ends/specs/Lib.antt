pub mod Answers
pub mod Releases
pub mod Marks
pub mod Falls
pub mod Spares
pub mod Lost
pub mod Broken
