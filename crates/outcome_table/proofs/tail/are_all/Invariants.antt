use Rattle.std.proofs.Common.{◌≡◌, true, take}
use Rattle.std.specs.List.{list_all}
use Rattle.outcome_table.proofs.tail.are_all.Given as goal

-- those before this one are
abbrev pub invariant-loop-one : goal.invariant-loop-one
invariant-loop-one l = list_all (λ b. b) (take l.one-index l.fixed) ≡ true
