pub mod Belt
pub mod Blocks
pub mod Laws
pub mod Moves
pub mod Orders
pub mod Shuffles
pub mod Worked
pub mod inner
