pub mod Texts
pub mod Tries
pub mod Walks
pub mod Finders
pub mod Marks
pub mod Growing
