pub mod Given
pub mod NetOf
pub mod Whole
pub mod Networks
pub mod Resolved
pub mod Sentence
pub mod Unique
pub mod inner
