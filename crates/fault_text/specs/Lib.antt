pub mod Positions
pub mod Blocks
pub mod TokensBefore
pub mod Laws
pub mod Worked
pub mod samples
