-- What a graph that is made smaller keeps.
use Rattle.std.specs.Prelude.{◌≡◌, ◌≢◌, ℕ, ◌<◌, ◌≤◌, List, ◌∷◌, map, length, slice_get, slice_index, Some, IsTrue}
use Rattle.domains.specs.Orders.{place}
use Rattle.domains.specs.Tables.{fits}
use Rattle.transition_table.specs.NetworkFacts.{has, are_different}
use Rattle.transition_table.specs.declared.machine.Machine.{Machine}
use Rattle.sgraph.specs.declared.vertex.Vertex.{Vertex}
use Rattle.sgraph.specs.declared.vertex.Vertex.TheVariants.{Test, Assign}
use Rattle.sgraph.specs.Graphs.{Eval, IsPath, Ordered, Once, Numbered, items, rises, tests}
use Rattle.sgraph.specs.Walks.{FitsMachine}
use Rattle.sgraph_opt.specs.Renumbering.{all_left}

-- ---- what is reached from the begin
abbrev pub Reached : List Vertex → ℕ → Type 0
Reached g k = IsTrue (has (all_left g) k)

-- the vertices that are reached may be a machine's: each test has one child for each code of a
-- variable of it, each assignment a result of it and one of its codes
pub record FitsReached (m : Machine) (g : List Vertex) : Type 0 where
  pub tests :
      (k var : ℕ) (kids : List ℕ)
      → Reached g k
      → slice_get g k ≡ Some (Test var kids)
      → (var < length m.vars) × (length kids ≡ slice_index m.vars var)
  pub assigns :
      (k result code next : ℕ)
      → Reached g k
      → slice_get g k ≡ Some (Assign result code next)
      → result < length m.results
  pub codes :
      (k result code next : ℕ)
      → Reached g k
      → slice_get g k ≡ Some (Assign result code next)
      → code < slice_index m.results result

-- along each path of them the variables and results come in the order's order
abbrev pub OrderedReached : ℕ → List ℕ → List Vertex → Type 0
OrderedReached n order g =
    (k : ℕ) (path : List ℕ)
    → Reached g k
    → IsPath g (k ∷ path)
    → IsTrue (rises (map (place order) (items n g (k ∷ path))))

-- no path of them tests a variable twice
abbrev pub OnceReached : List Vertex → Type 0
OnceReached g =
    (k : ℕ) (path : List ℕ)
    → Reached g k
    → IsPath g (k ∷ path)
    → IsTrue (are_different (tests g (k ∷ path)))

-- ---- what is kept
-- It fits the machines that the reached vertices of the graph fit, and gives what the graph gives on
-- each of their snapshots. It goes in the orders in which these vertices go, and tests no variable
-- twice on a path where they don't. It has no more vertices than are reached, and they are numbered.
pub record Keeps (g h : List Vertex) : Type 0 where
  pub fits_machine : (m : Machine) → FitsReached m g → FitsMachine m h
  pub evaluates :
      (m : Machine) (s : List ℕ)
      → FitsReached m g
      → IsTrue (fits m.vars s)
      → Eval m h s ≡ Eval m g s
  pub ordered : (n : ℕ) (order : List ℕ) → OrderedReached n order g → Ordered n order h
  pub once : OnceReached g → Once h
  pub fewer : length h ≤ length (all_left g)
  pub fewer_than_all : length h ≤ length g
  pub numbered : Numbered h

-- no assignment gives the code 0, which is there from the beginning
abbrev pub NoDefaults : List Vertex → Type 0
NoDefaults g = (k result code next : ℕ) → slice_get g k ≡ Some (Assign result code next) → code ≢ 0
