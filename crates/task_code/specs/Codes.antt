-- Code: what it does, and how it is laid out.
use Rattle.std.specs.Prelude.{◌≡◌, ℕ, zero, suc, ◌+◌, cond, ◌==◌, List, [], ◌∷◌, ◌++◌, map, length, replicate, slice_get, slice_index, slice_set, Option, Some, None, IsTrue}
use Rattle.domains.specs.Tables.{fits}
use Rattle.transition_table.specs.declared.machine.Machine.{Machine}
use Rattle.transition_table.specs.declared.snapshot.Outcome.{Outcome}
use Rattle.transition_table.specs.Transitions.{Transition}
use Rattle.transition_table.specs.Transitions.{reading}
use Rattle.sgraph.specs.declared.vertex.Vertex.{Vertex}
use Rattle.sgraph.specs.declared.vertex.Vertex.TheVariants.{Begin, Test as Tests, Assign, End}
use Rattle.task_code.specs.declared.instr.Instr.{Instr}
use Rattle.task_code.specs.declared.instr.Instr.TheVariants.{Test, Set, Goto, Halt}
use Rattle.sgraph.specs.Trails.{trail}
use Rattle.sgraph.specs.Graphs.{with_codes}

-- ---- what it does
-- the place behind an instruction
abbrev pub goes_to : List ℕ → ℕ → Instr → Option ℕ
goes_to s k (Test var targets) = slice_get targets (slice_index s var)
goes_to s k (Set result code) = Some (suc k)
goes_to s k (Goto target) = Some target
goes_to s k Halt = None

-- the instructions that are executed on a snapshot
abbrev pub executed : List Instr → List ℕ → List Instr
executed c s = trail (goes_to s) c 0 (Some 0)

abbrev pub set_by : List ℕ → Instr → List ℕ
set_by codes (Test var targets) = codes
set_by codes (Set result code) = slice_set codes result code
set_by codes (Goto target) = codes
set_by codes Halt = codes

abbrev pub set_all : List ℕ → List Instr → List ℕ
set_all codes [] = codes
set_all codes (i ∷ is) = set_all (set_by codes i) is

-- what the code makes of a blank outcome
abbrev pub Exec : Machine → List Instr → List ℕ → Outcome
Exec m c s = with_codes m (set_all (replicate (length m.results) 0) (executed c s))

abbrev pub StepsOf : List Instr → List ℕ → ℕ
StepsOf c s = length (executed c s)

-- on each snapshot it gives the transition
abbrev pub Computes : List Instr → Machine → Type 0
Computes c m = (s : List ℕ) → IsTrue (fits m.vars s) → Transition m (reading s) (Exec m c s)

-- ---- how it is laid out
-- how many instructions vertex k gives
abbrev pub width : ℕ → Vertex → ℕ
width k (Begin next) = 0
width k (Tests var kids) = 1
width k (Assign result code next) = cond (next == suc k) 1 2
width k End = 1

-- how many instructions the first n of these vertices give, where the first of them is vertex k
abbrev pub given_before : ℕ → List Vertex → ℕ → ℕ
given_before k vs zero = 0
given_before k [] (suc n) = 0
given_before k (v ∷ vs) (suc n) = width k v + given_before (suc k) vs n

-- the place of a vertex's first instruction
abbrev pub start : List Vertex → ℕ → ℕ
start g k = given_before 0 g k

-- what vertex k gives, where each vertex has a place
abbrev pub given_by : (ℕ → ℕ) → ℕ → Vertex → List Instr
given_by at k (Begin next) = []
given_by at k (Tests var kids) = Test var (map at kids) ∷ []
given_by at k (Assign result code next) =
    Set result code ∷ cond (next == suc k) [] (Goto (at next) ∷ [])
given_by at k End = Halt ∷ []

abbrev pub laid_out : (ℕ → ℕ) → ℕ → List Vertex → List Instr
laid_out at k [] = []
laid_out at k (v ∷ vs) = given_by at k v ++ laid_out at (suc k) vs

-- the code is the layout of the graph
abbrev pub Lowered : List Vertex → List Instr → Type 0
Lowered g c = c ≡ laid_out (start g) 0 g
