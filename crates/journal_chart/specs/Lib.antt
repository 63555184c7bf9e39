pub mod Pictures
pub mod Columns
pub mod Labels
pub mod Notes
pub mod Chart
pub mod Samples
pub mod inner
