pub mod Columns
pub mod Groups
pub mod Known
pub mod Left
pub mod Orders
pub mod Points
pub mod Rising
