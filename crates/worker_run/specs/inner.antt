pub mod Gathered
pub mod Locks
pub mod Tries
pub mod Turns
