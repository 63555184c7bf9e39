pub mod JoinedTexts
pub mod Columns
pub mod ItemsLeft
pub mod MarksAfter
pub mod UsedInputs
pub mod InputsAlone
pub mod Windows
