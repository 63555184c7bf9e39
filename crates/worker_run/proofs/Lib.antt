pub mod IsAdopted
pub mod Counts
pub mod OneLogMore
pub mod MergedAlone
pub mod PassedDeliveries
