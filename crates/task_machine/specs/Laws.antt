-- Laws of code that is laid out from a graph.
use Rattle.std.specs.Prelude.{ℕ, ◌≤◌, List, IsTrue}
use Rattle.domains.specs.Tables.{fits}
use Rattle.transition_table.specs.declared.machine.Machine.{Machine}
use Rattle.transition_table.specs.Transitions.{Transition, reading}
use Rattle.sgraph.specs.declared.vertex.Vertex.{Vertex}
use Rattle.sgraph.specs.Facts.{IsGraph}
use Rattle.sgraph.specs.Graphs.{Eval, Numbered, Once}
use Rattle.sgraph.specs.Walks.{FitsMachine}
use Rattle.task_code.specs.declared.instr.Instr.{Instr}
use Rattle.task_code.specs.Codes.{StepsOf, Computes, Lowered}
use Rattle.task_machine.specs.Running.{CodeFits}

-- the layout of a graph of a machine fits the machine
abbrev pub LoweredFits : Type 0
LoweredFits =
    (m : Machine) (g : List Vertex) (c : List Instr)
    → Lowered g c
    → FitsMachine m g
    → CodeFits m c

-- where the graph gives the machine's transition, so does the code
abbrev pub LoweredComputes : Type 0
LoweredComputes =
    (m : Machine) (g : List Vertex) (c : List Instr)
    → IsGraph g
    → Numbered g
    → Lowered g c
    → ((s : List ℕ) → IsTrue (fits m.vars s) → Transition m (reading s) (Eval m g s))
    → Computes c m

-- Where no path of the graph tests a variable twice, no more than 75 instructions are executed: 24
-- tests, 25 results with a goto each, and the halt.
abbrev pub FewSteps : Type 0
FewSteps =
    (m : Machine) (g : List Vertex) (c : List Instr) (s : List ℕ)
    → IsGraph g
    → Numbered g
    → Once g
    → FitsMachine m g
    → Lowered g c
    → StepsOf c s ≤ 75
