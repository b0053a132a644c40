pub mod Repeats
pub mod Rooms
pub mod Seen
pub mod Gathered
pub mod Answers
pub mod Noted
