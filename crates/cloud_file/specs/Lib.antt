pub mod Keys
pub mod Sorts
pub mod Lists
pub mod Tables
pub mod Entries
pub mod Files
pub mod Written
