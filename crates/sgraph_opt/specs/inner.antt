pub mod Choices
pub mod Renumbering
pub mod Representatives
pub mod Shrinking
