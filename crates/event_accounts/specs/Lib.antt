pub mod Accounts
pub mod InputLines
pub mod AccountLines
pub mod Laws
pub mod Samples
pub mod inner
