-- What a history says behind further entries, reading by reading, and behind a mark: `stacks_told`.
pub mod Appends
pub mod Silence
pub mod Lasts
pub mod Newests
pub mod Beside
pub mod Marks
