pub mod Finishing
pub mod Plans
pub mod inner
