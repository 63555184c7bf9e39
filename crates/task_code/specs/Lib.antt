pub mod Codes
pub mod Listings
pub mod Facts
pub mod Labels
pub mod SampleCodes
pub mod Worked
pub mod inner
