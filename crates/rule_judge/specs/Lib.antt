pub mod Declarations
pub mod Judged
pub mod Plain
pub mod Rules
pub mod Samples
pub mod inner
