pub mod Laws
pub mod Orders
pub mod Roots
pub mod Sizes
pub mod Supported
pub mod inner
