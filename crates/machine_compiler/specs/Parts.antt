-- What a compiled machine keeps.
use Rattle.std.specs.Prelude.{◌≡◌, ℕ, ◌^◌, ◌<◌, ◌≤◌, List, map, length, slice_get, Some, IsTrue}
use Rattle.domains.specs.Tables.{fits}
use Rattle.transition_table.specs.declared.machine.Machine.{Machine}
use Rattle.transition_table.specs.declared.network.Network.{Network}
use Rattle.order_sift.specs.Sifting.{IsSifted}
use Rattle.sgraph.specs.declared.vertex.Vertex.{Vertex}
use Rattle.sgraph.specs.declared.vertex.Vertex.TheVariants.{Assign}
use Rattle.sgraph.specs.Facts.{IsGraph}
use Rattle.sgraph.specs.Reactions.{IsGraphOf}
use Rattle.sgraph_opt.specs.Smaller.{NoDefaults}
use Rattle.task_code.specs.declared.instr.Instr.{Instr}
use Rattle.task_code.specs.Codes.{Lowered, Computes, StepsOf}
use Rattle.task_code.specs.Facts.{IsCode, OnceCode}
use Rattle.task_code.specs.Listings.{Part}
use Rattle.task_machine.specs.Running.{CodeFits}
use Rattle.machine_compiler.specs.declared.compiled.Compiled.{Compiled}

-- what is listed of a compiled machine
abbrev pub part_of_compiled : Compiled → Part
part_of_compiled c = record {
  order = c.sifted.order;
  first = c.sifted.first_count;
  count = c.sifted.count;
  graph = c.graph;
  code = c.code;
}

abbrev pub parts_of : List Compiled → List Part
parts_of compiled = map part_of_compiled compiled

-- the codes of parts
abbrev pub codes_in : List Part → List (List Instr)
codes_in parts = map (λ q. q.code) parts

-- the graphs of parts
abbrev pub graphs_in : List Part → List (List Vertex)
graphs_in parts = map (λ q. q.graph) parts

-- the codes that are assigned are bytes
abbrev pub AssignsBytes : List Vertex → Type 0
AssignsBytes g =
    (k result code next : ℕ) → slice_get g k ≡ Some (Assign result code next) → code < 256

-- The order is allowed and sifted, and the counts are the sizes of the machine's diagrams. The
-- graph is one of the machine in that order: it gives the transition on each snapshot, tests no
-- variable twice on a path, is reduced and numbered. It assigns no code 0. The code is the graph's
-- layout, is of the machine, gives the transition on each snapshot in at most 75 instructions, and
-- tests no variable twice on a path.
pub record IsRightPart (m : Machine) (q : Part) : Type 0 where
  pub sifted : IsSifted m q.order q.first q.count
  pub is_graph : IsGraph q.graph
  pub few : length q.graph < 2 ^ 63
  pub bytes : AssignsBytes q.graph
  pub of_machine : IsGraphOf m q.order q.graph
  pub no_defaults : NoDefaults q.graph
  pub lowered : Lowered q.graph q.code
  pub is_code : IsCode q.code
  pub code_fits : CodeFits m q.code
  pub computes : Computes q.code m
  pub once_code : OnceCode q.code
  pub steps : (s : List ℕ) → IsTrue (fits m.vars s) → StepsOf q.code s ≤ 75

-- one right part for each machine, in order
pub record AreRightParts (net : Network) (parts : List Part) : Type 0 where
  pub long : length parts ≡ length net.machines
  pub each :
      (k : ℕ) (m : Machine) (q : Part)
      → slice_get net.machines k ≡ Some m
      → slice_get parts k ≡ Some q
      → IsRightPart m q
