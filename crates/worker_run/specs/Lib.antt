pub mod Empty
pub mod Gathered
pub mod InHand
pub mod inner
