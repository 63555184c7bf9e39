pub mod Layouts
pub mod Marks
pub mod Lines
