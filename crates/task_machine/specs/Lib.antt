pub mod Laws
pub mod Running
pub mod Tasks
pub mod inner
