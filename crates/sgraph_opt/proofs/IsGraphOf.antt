-- Graphs of machines, made smaller.
use Rattle.std.proofs.Common.{◌∷◌, ℕ, List, length, sym, subst}
use Rattle.transition_table.specs.declared.machine.Machine.{Machine}
use Rattle.transition_table.specs.Transitions.{Transition, reading}
use Rattle.sgraph.specs.declared.vertex.Vertex.{Vertex}
use Rattle.sgraph.specs.Graphs.{Ordered, Once, Reduced}
use Rattle.sgraph.specs.Reactions.{IsGraphOf}
use Rattle.sgraph.specs.Walks.{FitsMachine}
use Rattle.sgraph_opt.specs.Smaller.{FitsReached, OrderedReached, OnceReached, Keeps}

-- what holds of all vertices and paths holds of the reached ones
pub all_fit : (m : Machine) (g : List Vertex) → FitsMachine m g → FitsReached m g
all_fit m g fit = record {
  tests = λ k var kids on is. fit.tests k var kids is;
  assigns = λ k result code next on is. fit.assigns k result code next is;
  codes = λ k result code next on is. fit.codes k result code next is;
}

pub all_ordered : (n : ℕ) (order : List ℕ) (g : List Vertex) → Ordered n order g
    → OrderedReached n order g
all_ordered n order g goes k path on walk = goes (k ∷ path) walk

pub all_once : (g : List Vertex) → Once g → OnceReached g
all_once g goes k path on walk = goes (k ∷ path) walk

-- a reduced graph that keeps what a machine's graph does is one of the machine
pub of_machine : (m : Machine) (order : List ℕ) (g h : List Vertex) → Keeps g h → Reduced h
    → IsGraphOf m order g → IsGraphOf m order h
of_machine m order g h keeps reduced own = record {
  fits_machine = keeps.fits_machine m (all_fit m g own.fits_machine);
  evaluates = λ s fit. subst (Transition m (reading s))
      (sym (keeps.evaluates m s (all_fit m g own.fits_machine) fit)) (own.evaluates s fit);
  ordered = keeps.ordered (length m.vars) order (all_ordered (length m.vars) order g own.ordered);
  once = keeps.once (all_once g own.once);
  reduced = reduced;
  numbered = keeps.numbered;
}
