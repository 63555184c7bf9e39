pub mod Left
pub mod Survey
