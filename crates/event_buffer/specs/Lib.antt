pub mod Arrivals
pub mod Cells
pub mod Feeds
pub mod Reacting
pub mod Steps
