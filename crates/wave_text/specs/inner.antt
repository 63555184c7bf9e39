pub mod Changing
pub mod Writable
