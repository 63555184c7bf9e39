-- Numbers for the functions that are left of a machine's characteristic function where items are
-- fixed, one for each snapshot.
use Rattle.std.specs.Prelude.{◌≡◌, ◌↔◌, ℕ, ◌+◌, ◌<◌, Bool, true, false, cond, not, ◌||◌, ◌==◌, List, [], ◌∷◌, ◌++◌, length, filter, get_or, slice_index, slice_set}
use Rattle.std.specs.List.{list_any}
use Rattle.polis_base.specs.Lists.{upto}
use Rattle.domains.specs.AllCodes.{all_codes}
use Rattle.domains.specs.Tables.{product}
use Rattle.transition_table.specs.declared.machine.Machine.{Machine}
use Rattle.transition_table.specs.Computed.{char, result_codes, supports}
use Rattle.transition_table.specs.Orders.{sizes_of}
use Rattle.decision_diagram.specs.Sets.{arising}

-- a snapshot, by its number
abbrev pub snapshot_at : Machine → ℕ → List ℕ
snapshot_at m i = get_or (all_codes m.vars) i []

-- and after it the codes of its results
abbrev pub point_at : Machine → ℕ → List ℕ
point_at m i = snapshot_at m i ++ result_codes m (snapshot_at m i)

-- what is left of the characteristic function where these items are fixed as the snapshot and its
-- outcome have them
abbrev pub left_at : Machine → (ℕ → Bool) → ℕ → List Bool
left_at m fixed i = arising (char m) (sizes_of m) fixed (point_at m i)

-- two snapshots have the same number exactly where they leave the same function
pub record AreClasses (m : Machine) (fixed : ℕ → Bool) (classes : List ℕ) : Type 0 where
  pub long : length classes ≡ product m.vars
  pub below : (i : ℕ) → i < length classes → slice_index classes i < product m.vars
  pub same : (i j : ℕ) → i < product m.vars → j < product m.vars
      → (slice_index classes i ≡ slice_index classes j) ↔ (left_at m fixed i ≡ left_at m fixed j)

-- with another code of the item the characteristic function isn't true there
abbrev pub matters : Machine → ℕ → ℕ → Bool
matters m item i =
    list_any (λ code. not (char m (slice_set (point_at m i) item code)))
    (upto (slice_index (sizes_of m) item))

-- the snapshots on which the item matters, in order
abbrev pub AreMarks : Machine → ℕ → List ℕ → Type 0
AreMarks m item marks = marks ≡ filter (matters m item) (upto (product m.vars))

-- how many different numbers there are
abbrev pub differing : List ℕ → ℕ
differing [] = 0
differing (x ∷ xs) = cond (list_any (λ y. x == y) xs) 0 1 + differing xs

-- one more item is fixed
abbrev pub fixed_too : (ℕ → Bool) → ℕ → ℕ → Bool
fixed_too fixed item w = fixed w || item == w

-- An item that isn't fixed: if it is a result, its support is; if it is a variable, no result that
-- depends on it is.
pub record IsNextItem (m : Machine) (fixed : ℕ → Bool) (item : ℕ) : Type 0 where
  pub free : fixed item ≡ false
  pub stands_on : (y v : ℕ) → y < length m.results → v < length m.vars → item ≡ length m.vars + y
      → supports m y v ≡ true → fixed v ≡ true
  pub carries : (y : ℕ) → y < length m.results → item < length m.vars → supports m y item ≡ true
      → fixed (length m.vars + y) ≡ false
