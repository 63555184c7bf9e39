-- How many variables from the first on a row needs to be enabled or not, and to give its results.
use Rattle.std.specs.Prelude.{◌≡◌, ℕ, ◌≤◌, Bool, true, ◌&&◌, nat_lt, List, length, slice_get, slice_index, Option, None, Some}
use Rattle.std.specs.List.{list_all}
use Rattle.transition_table.specs.Sources.{variable_of}
use Rattle.transition_table.specs.declared.machine.Machine.{Machine}
use Rattle.transition_table.specs.declared.row.Act.{Act}
use Rattle.transition_table.specs.declared.row.Cond.{Cond}
use Rattle.transition_table.specs.declared.row.Row.{Row}
use Rattle.transition_table.specs.declared.row.Source.{Source}
use Rattle.transition_table.specs.declared.row.Source.TheVariants.{Code, Input, Add}

-- the condition is on a variable before this one
abbrev pub asks_before : ℕ → Cond → Bool
asks_before n condition = nat_lt condition.var n

-- the source of the result y is no variable, or one before this one
abbrev pub is_before : List ℕ → ℕ → ℕ → Source → Bool
is_before inputs n y (Code code) = true
is_before inputs n y (Input v) = nat_lt v n
is_before inputs n y (Add k) = nat_lt (variable_of inputs y) n

-- the action takes its code from no variable, or from one before this one
abbrev pub takes_before : List ℕ → ℕ → Act → Bool
takes_before inputs n act = is_before inputs n act.result act.source

-- the row says nothing of the variables from this one on
abbrev pub is_settled : List ℕ → ℕ → Row → Bool
is_settled inputs n row = list_all (asks_before n) row.conds
    && list_all (takes_before inputs n) row.acts

-- for each row a number of variables, from which on the row says nothing
pub record AreEnds (m : Machine) (ends : List ℕ) : Type 0 where
  pub long : length ends ≡ length m.rows
  pub each : (r : ℕ) (row : Row) → slice_get m.rows r ≡ Some row
      → (slice_index ends r ≤ length m.vars)
      × (is_settled m.inputs (slice_index ends r) row ≡ true)

-- that of a row, 0 where there is none
abbrev pub end_left : List ℕ → Option ℕ → ℕ
end_left ends None = 0
end_left ends (Some r) = slice_index ends r
