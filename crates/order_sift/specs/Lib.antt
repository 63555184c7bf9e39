pub mod Moves
pub mod Laws
pub mod Turns
pub mod Sifting
pub mod inner
