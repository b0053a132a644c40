pub mod Streams
pub mod Numbered
pub mod Adapted
pub mod Lines
pub mod Held
pub mod Reading
