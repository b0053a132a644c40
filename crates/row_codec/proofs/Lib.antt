pub mod Puts
pub mod WordReadings
pub mod NodeReadings
pub mod ChangeReadings
pub mod PayloadLemmas
