pub mod Parts
pub mod Lines
pub mod Laws
pub mod Texts
pub mod Kept
pub mod inner
