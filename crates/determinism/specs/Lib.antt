pub mod SnapshotOrder
pub mod Conflicts
pub mod inner
