pub mod Joining
pub mod Merging
pub mod Watching
pub mod Workers
