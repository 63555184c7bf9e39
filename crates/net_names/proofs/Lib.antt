pub mod IfOk
pub mod NumberIn
pub mod NameNumbers
pub mod IsVar
pub mod Zips
