pub mod Ends
pub mod Products
pub mod Saves
pub mod Shown
pub mod Writing
pub mod Written
pub mod inner
