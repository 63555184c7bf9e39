pub mod GraphsText
pub mod NetworkText
pub mod WordsFrom
pub mod IsNext
pub mod SampleDrawings
