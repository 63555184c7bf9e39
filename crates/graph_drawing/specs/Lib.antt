pub mod Words
pub mod Drawings
pub mod Worked
pub mod samples
pub mod inner
