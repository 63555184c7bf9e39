pub mod Signals
pub mod Words
pub mod Waves
pub mod Laws
pub mod Samples
pub mod inner
