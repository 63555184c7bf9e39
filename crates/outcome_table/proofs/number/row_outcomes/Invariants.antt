use Rattle.std.proofs.Common.{◌≡◌, ◌+◌, ◌<◌, true, ℕ, [], length, get_or, slice_get, Some}
use Rattle.transition_table.specs.Transitions.{outcome_of, blank}
use Rattle.transition_table.specs.declared.row.Row.{Row}
use Rattle.transition_table.specs.Orders.{codes_of}
use Rattle.outcome_table.proofs.number.row_outcomes.Given as goal

-- the blank one and those of the rows before this one
abbrev pub invariant-loop-r : goal.invariant-loop-r
invariant-loop-r l = record {
  long : length l.outcomes ≡ l.r + 1;
  blank : get_or l.outcomes 0 [] ≡ codes_of (blank l.m);
  rows : (r : ℕ) (row : Row) → r < l.r → slice_get l.m.rows r ≡ Some row
      → get_or l.outcomes (1 + r) [] ≡ codes_of (outcome_of l.m l.s.codes true row.acts);
}
