pub mod Agreeing
pub mod FirstOthers
