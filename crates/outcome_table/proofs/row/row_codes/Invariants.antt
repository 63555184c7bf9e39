use Rattle.std.proofs.Common.{◌≡◌, ◌≤◌, ◌-◌, ◌∷◌, ◌++◌, replicate}
use Rattle.transition_table.specs.Transitions.{codes_given}
use Rattle.outcome_table.proofs.row.row_codes.Given as goal

-- those of the results before this one, and no codes yet
abbrev pub invariant-loop-y : goal.invariant-loop-y
invariant-loop-y l =
    record {
      some : 1 ≤ l.y;
      codes : l.codes ≡ (1 ∷ codes_given l.machine l.s.codes l.row.acts 1 (l.y - 1))
          ++ replicate (l.count - l.y) 0;
    }
