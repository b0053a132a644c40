pub mod Inside
pub mod Sames
