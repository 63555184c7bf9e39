-- The rows that allow the codes of the last variables.
use Rattle.std.specs.Prelude.{◌≡◌, ℕ, ◌+◌, ◌<◌, Bool, true, List, [], ◌++◌, filter, length, take, drop, get_or, slice_get, Option, None, Some}
use Rattle.domains.specs.AllCodes.{all_codes}
use Rattle.transition_table.specs.declared.machine.Machine.{Machine}
use Rattle.outcome_table.specs.inner.Numbering.{rows_left}
use Rattle.polis_base.specs.Sets.{IsBoth, has_member}
use Rattle.outcome_table.specs.declared.tail.Tails.{Tails}

-- of the rows that are left for codes of the variables before this one, the set has those that are
-- left for these codes of the others too
pub record Narrows (m : Machine) (from : ℕ) (codes set : List ℕ) : Type 0 where
  pub long : from + length codes ≡ length m.vars
  pub left : (fixed rows : List ℕ) → length fixed ≡ from → rows ≡ rows_left m fixed
      → filter (has_member set) rows ≡ rows_left m (fixed ++ codes)

-- one such set for each of these lists of codes
pub record EachNarrows (m : Machine) (from : ℕ) (lists sets : List (List ℕ)) : Type 0 where
  pub long : length sets ≡ length lists
  pub each : (j : ℕ) → j < length sets → Narrows m from (get_or lists j []) (get_or sets j [])

-- after those before there are now the rows that are in the set and in each of these
pub record AddsBoth (set : List ℕ) (later old new : List (List ℕ)) : Type 0 where
  pub kept : take (length old) new ≡ old
  pub long : length new ≡ length old + length later
  pub each : (j : ℕ) → j < length later
      → IsBoth set (get_or later j []) (get_or new (length old + j) [])

-- the sets for all lists of codes of the variables from one on, where no row takes a code from a
-- variable
pub record AreTails (m : Machine) (fixed : List Bool) (tails : Tails) : Type 0 where
  pub sets : tails.from < length m.vars
      → EachNarrows m tails.from (all_codes (drop tails.from m.vars)) tails.sets
  pub plain : tails.from < length m.vars → (r : ℕ) → r < length fixed
      → slice_get fixed r ≡ Some true

-- the number under which the outcome of a row stands, or of none
abbrev pub number_under : Option ℕ → ℕ
number_under None = 0
number_under (Some r) = 1 + r
