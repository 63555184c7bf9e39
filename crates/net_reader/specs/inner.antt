pub mod Formed
pub mod Outcomes
