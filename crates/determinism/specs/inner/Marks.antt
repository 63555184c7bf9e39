-- What the codes of each snapshot that enables a row have in common: whether a variable has its
-- first code.
use Rattle.std.specs.Prelude.{◌≡◌, ◌-◌, ◌==◌, ℕ, Bool, true, false, not, nat_lt, List, length, slice_get, slice_index, Some, IsTrue, if◌then◌else◌}
use Rattle.std.specs.List.{list_all}
use Rattle.std.specs.Int.{bit_at}
use Rattle.domains.specs.Tables.{fits}
use Rattle.transition_table.specs.declared.row.Row.{Row}
use Rattle.transition_table.specs.declared.machine.Machine.{Machine}
use Rattle.transition_table.specs.Transitions.{allows}
use Rattle.determinism.specs.declared.marks.Marks.{Marks}

-- the codes are of a snapshot that enables the row
pub record Enables (m : Machine) (row : Row) (codes : List ℕ) : Type 0 where
  pub snapshot : IsTrue (fits m.vars codes)
  pub held : IsTrue (list_all (allows codes) row.conds)

-- what a place says of codes: below 32 that this variable has the code 0, and from there on that
-- the variable 32 places before has another
abbrev pub says : ℕ → List ℕ → Bool
says place codes =
    if nat_lt place 32 then slice_index codes place == 0 else not
    (slice_index codes (place - 32) == 0)

-- what the places of the first set say is true, and what those of the second say is false, wherever
-- the row is enabled
pub record IsMarked (m : Machine) (row : Row) (marks : Marks) : Type 0 where
  pub said : (place : ℕ) (codes : List ℕ) → Enables m row codes → bit_at marks.said place ≡ 1
      → says place codes ≡ true
  pub denied : (place : ℕ) (codes : List ℕ) → Enables m row codes → bit_at marks.denied place ≡ 1
      → says place codes ≡ false

-- and so for each row
pub record AreMarked (m : Machine) (marks : List Marks) : Type 0 where
  pub long : length marks ≡ length m.rows
  pub each : (r : ℕ) (row : Row) (of_row : Marks) → slice_get m.rows r ≡ Some row
      → slice_get marks r ≡ Some of_row → IsMarked m row of_row
