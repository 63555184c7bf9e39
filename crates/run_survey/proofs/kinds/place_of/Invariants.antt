use Rattle.std.proofs.Common.{◌≡◌, false, take}
use Rattle.std.specs.List.{list_any}
use Rattle.run_survey.specs.inner.Merging.{has_outputs}
use Rattle.run_survey.proofs.kinds.place_of.Given as goal

-- no kind before this one has these outputs
abbrev pub invariant-loop-k : goal.invariant-loop-k
invariant-loop-k l = list_any (has_outputs l.outputs) (take l.k l.kinds) ≡ false
