-- A graph of a machine, and what a walk makes of an outcome.
use Rattle.std.specs.Prelude.{◌≡◌, ℕ, ◌+◌, ◌<◌, ◌&&◌, ◌==◌, Bool, true, nat_lt, List, length, take, drop, slice_get, slice_index, Some}
use Rattle.transition_table.specs.declared.machine.Machine.{Machine}
use Rattle.transition_table.specs.declared.snapshot.Snapshot.{Snapshot}
use Rattle.transition_table.specs.declared.snapshot.Outcome.{Outcome}
use Rattle.transition_table.specs.Transitions.{IsSnapshot, blank as blank_of}
use Rattle.sgraph.specs.declared.vertex.Vertex.{Vertex}
use Rattle.sgraph.specs.declared.vertex.Vertex.TheVariants.{Begin, Test, Assign, End}

-- the graph's tests have one child for each code of a variable of the machine, its results are the
-- machine's, and each gets one of its codes
pub record FitsMachine (m : Machine) (g : List Vertex) : Type 0 where
  pub tests :
      (k var : ℕ) (kids : List ℕ)
      → slice_get g k ≡ Some (Test var kids)
      → (var < length m.vars) × (length kids ≡ slice_index m.vars var)
  pub assigns :
      (k result code next : ℕ)
      → slice_get g k ≡ Some (Assign result code next)
      → result < length m.results
  pub codes :
      (k result code next : ℕ)
      → slice_get g k ≡ Some (Assign result code next)
      → code < slice_index m.results result

-- a vertex that a graph of a machine with these variables and results may have
abbrev pub fits_one : List ℕ → List ℕ → Vertex → Bool
fits_one vars results (Begin next) = true
fits_one vars results (Test var kids) =
    nat_lt var (length vars) && length kids == slice_index vars var
fits_one vars results (Assign result code next) =
    nat_lt result (length results) && nat_lt code (slice_index results result)
fits_one vars results End = true

-- a graph and a snapshot fit one machine, and the outcome is its blank one
pub record AreOfOne (g : List Vertex) (s : Snapshot) (o : Outcome) : Type 0 where
  pub machine : Machine
  pub graph : FitsMachine machine g
  pub snapshot : IsSnapshot machine s
  pub blank : o ≡ blank_of machine

-- an outcome by the codes of `go`, of so many state variables and of the outputs
abbrev pub outcome_with : ℕ → List ℕ → Outcome
outcome_with states codes =
    record {
      fires = slice_index codes 0 == 1;
      next = take states (drop 1 codes);
      outs = drop states (drop 1 codes);
    }

-- `go`, the state variables and the outputs
abbrev pub width_of : Outcome → ℕ
width_of o = 1 + length o.next + length o.outs
