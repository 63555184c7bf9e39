pub mod Drawings
pub mod Graphs
pub mod Week
