pub mod WholeIsLegal
pub mod LegalAndRises
pub mod SampleNetworks
