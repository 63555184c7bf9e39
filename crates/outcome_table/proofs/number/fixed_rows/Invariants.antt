use Rattle.std.proofs.Common.{◌≡◌, map, take}
use Rattle.std.specs.List.{list_all}
use Rattle.outcome_table.specs.inner.Numbering.{is_fixed}
use Rattle.outcome_table.proofs.number.fixed_rows.Given as goal

-- the rows before this one
abbrev pub invariant-loop-r : goal.invariant-loop-r
invariant-loop-r l = l.fixed ≡ map (λ row. list_all is_fixed row.acts) (take l.r l.m.rows)
