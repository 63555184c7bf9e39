-- Snapshots that enable two rows, as one set of codes for each variable.
use Rattle.std.specs.Prelude.{◌≡◌, ◌≢◌, ◌⊎◌, ◌<◌, ◌≤◌, ℕ, List, [], ◌∷◌, length, slice_get, slice_index, Some, IsTrue, ⊤}
use Rattle.std.specs.List.{list_all}
use Rattle.std.specs.Int.{bit_at}
use Rattle.domains.specs.Tables.{fits}
use Rattle.transition_table.specs.declared.row.Row.{Row}
use Rattle.transition_table.specs.declared.machine.Machine.{Machine}
use Rattle.transition_table.specs.MachineFacts.{is_row}
use Rattle.transition_table.specs.Transitions.{allows}

-- one code of each set
pub record IsIn (sets codes : List ℕ) : Type 0 where
  pub long : length codes ≡ length sets
  pub each : (k : ℕ) → k < length sets → bit_at (slice_index sets k) (slice_index codes k) ≡ 1

-- the row is of the machine's form
abbrev pub IsRowOf : Machine → Row → Type 0
IsRowOf m row = IsTrue (is_row m.inputs m.vars m.results row)

-- two of its rows
pub record AreRowsOf (m : Machine) (first second : Row) : Type 0 where
  pub of_first : (r : ℕ) × (slice_get m.rows r ≡ Some first)
  pub of_second : (r : ℕ) × (slice_get m.rows r ≡ Some second)

-- the codes are of a snapshot that enables both rows
pub record EnableBoth (m : Machine) (first second : Row) (codes : List ℕ) : Type 0 where
  pub snapshot : IsTrue (fits m.vars codes)
  pub of_first : IsTrue (list_all (allows codes) first.conds)
  pub of_second : IsTrue (list_all (allows codes) second.conds)

-- the snapshots that enable both rows are the lists of one code of each set
pub record IsBox (m : Machine) (first second : Row) (sets : List ℕ) : Type 0 where
  pub long : length sets ≡ length m.vars
  pub few : (k code : ℕ) → k < length sets → bit_at (slice_index sets k) code ≡ 1 → code < 33
  pub inside : (codes : List ℕ) → IsIn sets codes → EnableBoth m first second codes
  pub whole : (codes : List ℕ) → EnableBoth m first second codes → IsIn sets codes

-- no set is empty
abbrev pub AreSome : List ℕ → Type 0
AreSome sets = (k : ℕ) → k < length sets → 0 < slice_index sets k

-- the least code of each set
pub record AreLeast (sets codes : List ℕ) : Type 0 where
  pub inside : IsIn sets codes
  pub least : (k code : ℕ) → k < length sets → bit_at (slice_index sets k) code ≡ 1
      → slice_index codes k ≤ code

-- the codes are the same but at these two variables
abbrev pub SameBut : ℕ → ℕ → List ℕ → List ℕ → Type 0
SameBut u v codes others = (k : ℕ) → k ≢ u → k ≢ v → slice_index codes k ≡ slice_index others k

-- of the first two codes that differ the smaller is that of the first list
abbrev pub Before : List ℕ → List ℕ → Type 0
Before [] ys = ⊤
Before (x ∷ xs) [] = ⊥
Before (x ∷ xs) (y ∷ ys) = (x < y) ⊎ ((x ≡ y) × Before xs ys)

-- a set and two codes for each variable
pub record HaveRoom (m : Machine) (work codes least : List ℕ) : Type 0 where
  pub sets : length work ≡ length m.vars
  pub long : length codes ≡ length m.vars
  pub best_long : length least ≡ length m.vars
