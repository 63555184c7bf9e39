pub mod Pieces
pub mod IsSentEvent
pub mod Items
pub mod Lines
pub mod EventNumbers
