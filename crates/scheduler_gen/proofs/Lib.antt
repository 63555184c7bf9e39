pub mod IsPlanOf
pub mod RunSteps
pub mod FirstOfPlan
