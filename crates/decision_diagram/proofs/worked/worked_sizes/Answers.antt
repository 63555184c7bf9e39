use Rattle.std.proofs.Common.{refl}
use Rattle.decision_diagram.proofs.worked.worked_sizes.Goals as goal

pub returns : goal.returns
returns c = record {
  lamp = refl;
  join = refl;
  odd = refl;
  odd_mixed = refl;
  repeated = refl;
  mirrored = refl;
  in_pairs = refl;
  both = refl;
}
