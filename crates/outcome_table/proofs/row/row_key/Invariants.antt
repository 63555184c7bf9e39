use Rattle.std.proofs.Common.{◌≡◌, ◌≤◌, ◌-◌, ◌∷◌}
use Rattle.transition_table.specs.Transitions.{codes_given}
use Rattle.outcome_table.proofs.row.row_key.Given as goal

-- the codes of the results before this one
abbrev pub invariant-loop-y : goal.invariant-loop-y
invariant-loop-y l =
    record {
      some : 1 ≤ l.y;
      codes : l.key.items ≡ 1 ∷ codes_given l.machine l.s.codes l.row.acts 1 (l.y - 1);
    }
