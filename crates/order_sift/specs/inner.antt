pub mod Below
pub mod Chains
pub mod Classes
pub mod Known
pub mod Pairs
pub mod Points
pub mod Settings
pub mod Turns
