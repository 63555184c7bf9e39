-- Listings of compiled machines.
use Rattle.std.specs.Prelude.{ℕ, suc, ◌+◌, List, [], ◌∷◌, ◌++◌, map, length, flat_map, slice_get, unwrap_or, codes, decimal}
use Rattle.std.specs.List.{join_by}
use Rattle.polis_base.specs.Lines.{line}
use Rattle.transition_table.specs.NetworkNames.{event_name}
use Rattle.transition_table.specs.declared.machine.Machine.{Machine}
use Rattle.transition_table.specs.declared.network.Network.{Network}
use Rattle.sgraph.specs.declared.vertex.Vertex.{Vertex}
use Rattle.sgraph.specs.declared.vertex.Vertex.TheVariants.{Begin, Test as Tests, Assign, End}
use Rattle.task_code.specs.declared.instr.Instr.{Instr}
use Rattle.task_code.specs.declared.instr.Instr.TheVariants.{Test, Set, Goto, Halt}

-- a compiled machine: an order, the sizes of the diagrams under the first order and under this one,
-- a graph and code
pub record Part : Type 0 where
  pub order : List ℕ
  pub first : ℕ
  pub count : ℕ
  pub graph : List Vertex
  pub code : List Instr

-- numbers in decimal, each after a space
abbrev pub numbers : List ℕ → List ℕ
numbers ns = flat_map (λ n. 32 ∷ decimal n) ns

-- the words for the variables and then for the results
abbrev pub labels : Network → Machine → List (List ℕ)
labels net m =
    map (λ e. codes "in " ++ event_name net e) m.inputs
    ++ map (λ state. codes "st " ++ state.name) m.states
    ++ codes "go" ∷ map (λ state. codes "to " ++ state.name) m.states
    ++ map (λ e. codes "out " ++ event_name net e) m.outputs

abbrev pub label : Network → Machine → ℕ → List ℕ
label net m i = unwrap_or (slice_get (labels net m) i) []

abbrev pub vertex_words : Network → Machine → Vertex → List ℕ
vertex_words net m (Begin next) = codes "begin" ++ numbers (next ∷ [])
vertex_words net m (Tests var kids) = codes "test " ++ label net m var ++ numbers kids
vertex_words net m (Assign result code next) =
    codes "assign " ++ label net m (length m.vars + result) ++ numbers (code ∷ next ∷ [])
vertex_words net m End = codes "end"

abbrev pub instr_words : Network → Machine → Instr → List ℕ
instr_words net m (Test var targets) = codes "test " ++ label net m var ++ numbers targets
instr_words net m (Set result code) =
    codes "set " ++ label net m (length m.vars + result) ++ numbers (code ∷ [])
instr_words net m (Goto target) = codes "goto" ++ numbers (target ∷ [])
instr_words net m Halt = codes "halt"

-- one line for each item, its number from k on before its words
abbrev pub numbered_lines : {X : Type 0} → (X → List ℕ) → ℕ → List X → List ℕ
numbered_lines words k [] = []
numbered_lines words k (x ∷ xs) = line (decimal k ++ 32 ∷ words x)
    ++ numbered_lines words (suc k) xs

abbrev pub part_text : Network → Machine → Part → List ℕ
part_text net m q =
    line (codes "machine " ++ m.name)
    ++ line (codes "order " ++ join_by (label net m) (codes ", ") q.order)
    ++ line (codes "diagram" ++ numbers (q.first ∷ q.count ∷ []))
    ++ line (codes "vertices" ++ numbers (length q.graph ∷ []))
    ++ numbered_lines (vertex_words net m) 0 q.graph
    ++ line (codes "code" ++ numbers (length q.code ∷ []))
    ++ numbered_lines (instr_words net m) 0 q.code

-- the machines and their parts, side by side
abbrev pub parts_text : Network → List Machine → List Part → List ℕ
parts_text net [] parts = []
parts_text net (m ∷ ms) [] = []
parts_text net (m ∷ ms) (q ∷ qs) = part_text net m q ++ parts_text net ms qs

abbrev pub ListingText : Network → List Part → List ℕ
ListingText net parts = line (codes "polis listing 1") ++ parts_text net net.machines parts
    ++ line (codes "end")
