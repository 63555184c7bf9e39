pub mod Pushed
pub mod SameRows
pub mod Sizes
