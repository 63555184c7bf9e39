use Rattle.fault_text.proofs.OnePlace.{one_place}
use Rattle.fault_text.proofs.law.laws.Goals as goal

pub returns : goal.returns
returns c = record { one_place = one_place }
