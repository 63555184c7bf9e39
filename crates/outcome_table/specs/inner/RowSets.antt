-- The rows that allow a code, as sets.
use Rattle.std.specs.Prelude.{◌≡◌, ℕ, ◌<◌, ◌≤◌, false, List, [], length, get_or, slice_get, slice_index, Some}
use Rattle.polis_base.specs.Sets.{has_member}
use Rattle.transition_table.specs.declared.machine.Machine.{Machine}
use Rattle.transition_table.specs.declared.row.Row.{Row}
use Rattle.transition_table.specs.RowCodes.{row_allows}

-- the rows that allow the code of the variable
pub record IsSetOf (m : Machine) (var code : ℕ) (set : List ℕ) : Type 0 where
  pub each : (r : ℕ) (row : Row) → slice_get m.rows r ≡ Some row
      → has_member set r ≡ row_allows m.vars row var code

-- those of them that are before this one
pub record AreBefore (m : Machine) (var code n : ℕ) (set : List ℕ) : Type 0 where
  pub each : (r : ℕ) (row : Row) → r < n → slice_get m.rows r ≡ Some row
      → has_member set r ≡ row_allows m.vars row var code
  pub rest : (r : ℕ) → n ≤ r → has_member set r ≡ false

-- one such set for each code of the variable
pub record AreSets (m : Machine) (var : ℕ) (sets : List (List ℕ)) : Type 0 where
  pub long : length sets ≡ slice_index m.vars var
  pub each : (code : ℕ) → code < length sets → IsSetOf m var code (get_or sets code [])

-- and these for each variable
pub record AreAllowed (m : Machine) (table : List (List (List ℕ))) : Type 0 where
  pub long : length table ≡ length m.vars
  pub each : (var : ℕ) → var < length m.vars → AreSets m var (get_or table var [])
