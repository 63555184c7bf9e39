-- The codes on which two rows give a result different codes.
use Rattle.std.specs.Prelude.{◌≡◌, ◌<◌, ◌≤◌, ◌+◌, ℕ, Bool, true, false, List, length, slice_index}
use Rattle.transition_table.specs.declared.row.Row.{Row}
use Rattle.transition_table.specs.Transitions.{code_given}
use Rattle.determinism.specs.inner.Boxes.{IsIn, Before}
use Rattle.determinism.specs.declared.pair.Pair.{Pair}

-- the code that a row gives the result
abbrev pub given : Pair → Row → ℕ → List ℕ → ℕ
given pair row y codes = code_given pair.machine.now codes row.acts y

-- the rows give the result the same code
abbrev pub Agree : Pair → ℕ → List ℕ → Type 0
Agree pair y codes = given pair pair.first.now y codes ≡ given pair pair.second.now y codes

-- or different codes
abbrev pub Differ : Pair → ℕ → List ℕ → Type 0
Differ pair y codes = ¬ Agree pair y codes

-- what the row gives the result depends on these two variables at most
abbrev pub Reads : Pair → Row → ℕ → ℕ → ℕ → Type 0
Reads pair row y u v =
    (codes others : List ℕ) → slice_index codes u ≡ slice_index others u
    → slice_index codes v ≡ slice_index others v → given pair row y codes ≡ given pair row y others

-- so it is for both rows, and the second variable is there
pub record HangsOn (pair : Pair) (y u v : ℕ) : Type 0 where
  pub there : v < length pair.sets.now
  pub of_first : Reads pair pair.first.now y u v
  pub of_second : Reads pair pair.second.now y u v

-- the result differs, with this code of u and of the codes of v the least with which it does
pub record IsLeastWith (pair : Pair) (y u v code : ℕ) (codes : List ℕ) : Type 0 where
  pub at : slice_index codes u ≡ code
  pub differ : Differ pair y codes
  pub least : (t : List ℕ) → IsIn pair.sets.now t → slice_index t u ≡ code → Differ pair y t
      → slice_index codes v ≤ slice_index t v

-- the result differs nowhere
abbrev pub NeverDiffer : Pair → ℕ → Type 0
NeverDiffer pair y = (t : List ℕ) → IsIn pair.sets.now t → ¬ Differ pair y t

-- the first number after those of the results
abbrev pub results_end : Pair → ℕ
results_end pair = 1 + length pair.machine.now.states + length pair.machine.now.outputs

-- the least list of one code of each set on which the result differs
pub record IsLeastAt (pair : Pair) (y : ℕ) (codes : List ℕ) : Type 0 where
  pub inside : IsIn pair.sets.now codes
  pub differ : Differ pair y codes
  pub least : (t : List ℕ) → IsIn pair.sets.now t → Differ pair y t → Before codes t

-- the least such list for the results before y, where there is one
pub record IsBest (pair : Pair) (y : ℕ) (found : Bool) (best : List ℕ) : Type 0 where
  pub none : found ≡ false → (k : ℕ) → 1 ≤ k → k < y → NeverDiffer pair k
  pub inside : found ≡ true → IsIn pair.sets.now best
  pub differ : found ≡ true → (k : ℕ) × (1 ≤ k) × (k < y) × Differ pair k best
  pub least : found ≡ true → (k : ℕ) (t : List ℕ) → 1 ≤ k → k < y → IsIn pair.sets.now t
      → Differ pair k t → Before best t
