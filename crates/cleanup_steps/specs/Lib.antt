pub mod AtCleanup
pub mod Makes
