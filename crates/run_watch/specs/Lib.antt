pub mod Emissions
pub mod Hearings
pub mod Laws
pub mod Monitors
pub mod Samples
pub mod WatchLines
pub mod Watches
pub mod inner
