pub mod Clocks
pub mod Emissions
pub mod Landed
pub mod Losses
pub mod Marks
pub mod Outcomes
pub mod Tables
