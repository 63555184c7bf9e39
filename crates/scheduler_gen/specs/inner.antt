pub mod Picks
pub mod Runs
