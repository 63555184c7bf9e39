pub mod Boxes
pub mod Conflicts
pub mod Marks
pub mod Pairs
pub mod Sayers
