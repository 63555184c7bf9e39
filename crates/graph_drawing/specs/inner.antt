pub mod Children
pub mod WordsFrom
