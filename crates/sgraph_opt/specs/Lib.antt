pub mod Laws
pub mod Renumbering
pub mod Smaller
pub mod inner
