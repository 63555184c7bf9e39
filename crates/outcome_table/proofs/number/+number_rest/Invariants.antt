use Rattle.std.proofs.Common.{◌≡◌, ◌+◌, ◌-◌, ◌++◌, ◌∷◌, [], length, take, drop, flat_map}
use Rattle.polis_base.specs.Lists.{upto}
use Rattle.transition_table.specs.Transitions.{IsSnapshot}
use Rattle.outcome_table.specs.inner.Numbering.{Adds, lists_after}
use Rattle.outcome_table.proofs.number.+number_rest.Given as goal

abbrev pub decreases-number_rest : goal.decreases-number_rest
decreases-number_rest l = length l.narrowing.now.machine.now.vars - l.at

-- those with the codes before this one
abbrev pub invariant-loop-code : goal.invariant-loop-code
invariant-loop-code l = record {
  adds : Adds l.narrowing.machine.now l.fn.made l.made
      (flat_map (λ c. lists_after (take l.at l.fn.s.codes ++ c ∷ [])
      (drop (l.at + 1) l.narrowing.machine.now.vars)) (upto l.code));
  snapshot : IsSnapshot l.narrowing.machine.now l.s;
  kept : take l.at l.s.codes ≡ take l.at l.fn.s.codes;
}
