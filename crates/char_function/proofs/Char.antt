-- Names that are the same.
pub use Rattle.domains.proofs.Names.{same_self}
