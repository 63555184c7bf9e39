-- What a machine's results depend on, orders of its variables and results, and its characteristic
-- function, over plain lists. The variables come first, and the results are numbered after them.
use Rattle.std.specs.Prelude.{◌≡◌, ◌≢◌, ℕ, ◌+◌, ◌<◌, cond, List, ◌∷◌, ◌++◌, length, slice_index, IsTrue}
use Rattle.domains.specs.Orders.{IsPermutation, place}
use Rattle.domains.specs.Tables.{fits}
use Rattle.transition_table.specs.declared.machine.Machine.{Machine}
use Rattle.transition_table.specs.declared.snapshot.Outcome.{Outcome}
use Rattle.transition_table.specs.Transitions.{Transition, reading}

-- how many codes the variables and then the results have
abbrev pub sizes_of : Machine → List ℕ
sizes_of m = m.vars ++ m.results

-- the codes of the results: of `go`, of the state variables, of the outputs
abbrev pub codes_of : Outcome → List ℕ
codes_of o = cond o.fires 1 0 ∷ o.next ++ o.outs

-- the list is a snapshot and the codes of its outcome
abbrev pub Char : Machine → List ℕ → Type 0
Char m list = (s : List ℕ) × (o : Outcome) × IsTrue (fits m.vars s) × Transition m (reading s) o
    × (list ≡ s ++ codes_of o)

-- two snapshots differ in the variable v alone, and their transitions give the result y different
-- codes
pub record Support (m : Machine) (y v : ℕ) : Type 0 where
  pub one : List ℕ
  pub other : List ℕ
  pub first : Outcome
  pub second : Outcome
  pub fits_one : IsTrue (fits m.vars one)
  pub fits_other : IsTrue (fits m.vars other)
  pub alone : (w : ℕ) → w ≢ v → slice_index one w ≡ slice_index other w
  pub gives_first : Transition m (reading one) first
  pub gives_second : Transition m (reading other) second
  pub differ : slice_index (codes_of first) y ≢ slice_index (codes_of second) y

-- an order of the variables and results in which each result stands after its whole support
pub record Allowed (m : Machine) (order : List ℕ) : Type 0 where
  pub permutation : IsPermutation order
  pub long : length order ≡ length (sizes_of m)
  pub after : (y v : ℕ) → y < length m.results → v < length m.vars → Support m y v
      → place order v < place order (length m.vars + y)
