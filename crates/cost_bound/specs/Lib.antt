pub mod Costs
pub mod Bounds
pub mod Certificates
pub mod Laws
pub mod SampleCosts
pub mod Worked
pub mod inner
