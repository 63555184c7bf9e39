pub mod Cursors
pub mod Lines
pub mod Steps
pub mod Texts
