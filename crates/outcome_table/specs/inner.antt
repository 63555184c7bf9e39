pub mod Needs
pub mod Numbering
pub mod RowSets
pub mod Tails
