pub mod Run
pub mod Bound
pub mod Commands
