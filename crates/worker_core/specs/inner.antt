pub mod Facts
pub mod Known
pub mod Merges
pub mod Parts
pub mod Turns
