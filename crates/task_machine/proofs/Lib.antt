pub mod Executed
pub mod ExecSteps
pub mod GiveOutcomes
pub mod Layouts
pub mod StepBounds
pub mod CodeFits
pub mod LoweredLaws
