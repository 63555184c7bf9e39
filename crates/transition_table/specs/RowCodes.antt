-- The codes of each variable that each row allows, as sets.
use Rattle.std.specs.Prelude.{◌≡◌, ◌<◌, ℕ, Bool, not, ◌&&◌, ◌||◌, ◌==◌, nat_lt, List, length, slice_get, slice_index, Some}
use Rattle.std.specs.List.{list_all}
use Rattle.std.specs.Int.{bit_at}
use Rattle.transition_table.specs.declared.machine.Machine.{Machine}
use Rattle.transition_table.specs.declared.row.Cond.{Cond}
use Rattle.transition_table.specs.declared.row.Row.{Row}

-- the condition allows the code of the variable, or is on another variable
abbrev pub allows_code : ℕ → ℕ → Cond → Bool
allows_code var code condition = not (condition.var == var) || bit_at condition.codes code == 1

-- a code of the variable that the row allows
abbrev pub row_allows : List ℕ → Row → ℕ → ℕ → Bool
row_allows vars row var code = nat_lt code (slice_index vars var)
    && list_all (allows_code var code) row.conds

-- the set of the codes of the variable that the row allows
abbrev pub AreCodesOf : List ℕ → Row → ℕ → ℕ → Type 0
AreCodesOf vars row var set = (code : ℕ) → (bit_at set code == 1) ≡ row_allows vars row var code

-- one such set for each variable
pub record AreSetsOf (vars : List ℕ) (row : Row) (sets : List ℕ) : Type 0 where
  pub long : length sets ≡ length vars
  pub each : (var : ℕ) → var < length vars → AreCodesOf vars row var (slice_index sets var)

-- and these for each row
pub record AreRowCodes (m : Machine) (codes : List (List ℕ)) : Type 0 where
  pub long : length codes ≡ length m.rows
  pub each : (r : ℕ) (row : Row) (sets : List ℕ) → slice_get m.rows r ≡ Some row
      → slice_get codes r ≡ Some sets → AreSetsOf m.vars row sets
