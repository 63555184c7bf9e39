pub mod Comparing
pub mod Laws
pub mod Runs
pub mod Samples
pub mod Shapes
pub mod Worked
pub mod inner
