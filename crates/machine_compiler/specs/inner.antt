pub mod Shares
pub mod Tallies
pub mod Written
