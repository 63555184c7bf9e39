pub mod Says
pub mod Befores
pub mod Bests
pub mod Clash
pub mod Overlaps
pub mod LeastCodes
pub mod Results
pub mod AreSayers
