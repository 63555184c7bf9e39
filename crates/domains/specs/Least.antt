-- The order of lists of codes, and the least list of which something holds. The codes of snapshots
-- are such lists, so it is the least snapshot, too.
use Rattle.std.specs.Prelude.{◌≢◌, ◌↔◌, ◌≤◌, ℕ, List, IsTrue}
use Rattle.std.specs.Cmp.Lexicographic.{slice_cmp}
use Rattle.std.specs.Ordering.{nat_cmp}
use Rattle.std.specs.declared.cmp.Ordering.TheVariants.{Greater}
use Rattle.domains.specs.Tables.{fits, rank}

-- a is b or stands before it: of the first two codes that differ the smaller is that of a
abbrev pub IsUpTo : List ℕ → List ℕ → Type 0
IsUpTo a b = slice_cmp nat_cmp a b ≢ Greater

-- P holds of the list, which fits the sizes, and of none that fits them and stands before it
pub record IsLeast (sizes : List ℕ) (P : List ℕ → Type 0) (codes : List ℕ) : Type 0 where
  pub fit : IsTrue (fits sizes codes)
  pub holds : P codes
  pub least : (other : List ℕ) → IsTrue (fits sizes other) → P other
      → rank sizes codes ≤ rank sizes other

-- lists that fit stand in the order of their numbers
abbrev pub OrdersAgree : Type 0
OrdersAgree = (sizes a b : List ℕ) → IsTrue (fits sizes a) → IsTrue (fits sizes b)
    → IsUpTo a b ↔ (rank sizes a ≤ rank sizes b)
