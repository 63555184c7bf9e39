pub mod Boxes
pub mod Emitting
pub mod Firsts
pub mod Lines
pub mod Looking
pub mod Marks
pub mod Steps
pub mod Walking
