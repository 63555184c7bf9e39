pub mod Emissions
pub mod Hearings
