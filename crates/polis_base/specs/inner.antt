pub mod Classes
pub mod Held
pub mod Keywords
