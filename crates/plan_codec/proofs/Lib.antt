pub mod Sheets
pub mod Readings
pub mod ValueReadings
pub mod ValueLists
pub mod ValuePuts
pub mod RisingMaps
pub mod Weights
pub mod PlanReadings
