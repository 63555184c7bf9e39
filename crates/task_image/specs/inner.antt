pub mod FieldReaders
pub mod Gives
pub mod Heads
pub mod Pieces
pub mod Puts
pub mod Reading
pub mod Walks
