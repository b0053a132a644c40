pub mod FileFaults
pub mod Said
pub mod Ended
pub mod Called
