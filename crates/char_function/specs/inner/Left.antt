-- What is left of a machine's characteristic function where the codes before a place of an order are
-- those of a snapshot.
use Rattle.std.specs.Prelude.{◌≡◌, ℕ, ◌+◌, ◌<◌, ◌≤◌, Bool, true, false, List, length, take, drop, get_or, slice_index, Option, None, Some}
use Rattle.domains.specs.Orders.{IsPermutation, place}
use Rattle.domains.specs.Tables.{product}
use Rattle.decision_diagram.specs.Diagrams.{Diagrams, Means, level_of}
use Rattle.decision_diagram.specs.Sets.{stands, taking}
use Rattle.outcome_table.specs.Outcomes.{IsTableOf}
use Rattle.outcome_table.specs.declared.table.Table.{Table}
use Rattle.transition_table.specs.declared.machine.Machine.{Machine}
use Rattle.transition_table.specs.Computed.{char, supports}
use Rattle.transition_table.specs.Orders.{sizes_of}
use Rattle.char_function.specs.inner.Known.{OnlyResults}
use Rattle.char_function.specs.inner.Points.{at_point, points}

-- its value on a list whose codes before the place are replaced by those of the snapshot of this
-- number and its results
abbrev pub left_from : Machine → List ℕ → ℕ → ℕ → List ℕ → Bool
left_from m order place i codes =
    char m (taking (stands (take place order)) (at_point (points m) i) codes)

-- the snapshot is the first of those that share its codes before the place
abbrev pub IsFirst : Machine → List ℕ → ℕ → ℕ → Type 0
IsFirst m order place i = (v : ℕ) → v < length m.vars → stands (take place order) v ≡ false
    → slice_index (at_point (points m) i) v ≡ 0

-- a snapshot that is such a first one
pub record IsFirstOf (m : Machine) (order : List ℕ) (place i : ℕ) : Type 0 where
  pub snapshot : i < length (points m)
  pub first : IsFirst m order place i

-- how far apart two snapshots stand whose codes of a variable follow each other
pub record AreStrides (vars strides : List ℕ) : Type 0 where
  pub long : length strides ≡ length vars
  pub each : (v : ℕ) → v < length vars → slice_index strides v ≡ product (drop (v + 1) vars)

-- an order in which each result stands after its support, by the test
pub record IsOrdered (m : Machine) (order : List ℕ) : Type 0 where
  pub permutation : IsPermutation order
  pub long : length order ≡ length (sizes_of m)
  pub after : (y v : ℕ) → y < length m.results → v < length m.vars → supports m y v ≡ true
      → place order v < place order (length m.vars + y)

-- what nodes of a machine are made of
pub record IsFixing (m : Machine) (t : Table) (items sizes strides : List ℕ) (start : ℕ) : Type 0
  where
    pub table : IsTableOf m t
    pub ordered : IsOrdered m items
    pub all_sizes : sizes ≡ sizes_of m
    pub apart : AreStrides m.vars strides
    pub results : OnlyResults (length m.vars) items start
    pub within : start ≤ length items

-- A node that is known for an outcome is what is left after the place on each snapshot that has the
-- outcome.
pub record AreLeft (m : Machine) (t : Table) (s : Diagrams) (start : ℕ) (known : List (Option ℕ)) :
    Type 0 where
  pub long : length known ≡ length t.outcomes
  pub means : (i n : ℕ) → i < length (points m)
      → get_or known (slice_index t.numbers i) None ≡ Some n
      → Means s n (left_from m s.order start i)
  pub levels : (i n : ℕ) → i < length (points m)
      → get_or known (slice_index t.numbers i) None ≡ Some n → start ≤ level_of s n

-- the store is over these items and sizes
pub record IsOver (items wide : List ℕ) (s : Diagrams) : Type 0 where
  pub order : s.order ≡ items
  pub sizes : s.sizes ≡ wide

-- and what is known is of its nodes
pub record IsStoreOf (m : Machine) (t : Table) (items wide : List ℕ) (start : ℕ) (s : Diagrams)
    (nodes : List (Option ℕ)) : Type 0 where
  pub order : s.order ≡ items
  pub sizes : s.sizes ≡ wide
  pub known : AreLeft m t s start nodes
