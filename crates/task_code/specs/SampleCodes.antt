-- The lamp's graphs and their code, and its listing.
use Rattle.std.specs.Prelude.{ℕ, List, [], ◌∷◌, ◌++◌, codes}
use Rattle.polis_base.specs.Lines.{line}
use Rattle.sgraph.specs.declared.vertex.Vertex.{Vertex}
use Rattle.sgraph.specs.declared.vertex.Vertex.TheVariants.{Begin, Test as Tests, Assign, End}
use Rattle.task_code.specs.declared.instr.Instr.{Instr}
use Rattle.task_code.specs.declared.instr.Instr.TheVariants.{Test, Set, Goto, Halt}
use Rattle.task_code.specs.Listings.{Part}

-- press, s, go, s, light
abbrev pub lamp_order : List ℕ
lamp_order = 0 ∷ 1 ∷ 2 ∷ 3 ∷ 4 ∷ []

-- the code of the graph that the lamp's diagram becomes
abbrev pub lamp_code : List Instr
lamp_code =
    Test 0 (6 ∷ 1 ∷ [])
    ∷ Test 1 (2 ∷ 6 ∷ [])
    ∷ Set 0 1
    ∷ Set 1 2
    ∷ Set 2 1
    ∷ Goto 9
    ∷ Set 0 0
    ∷ Set 1 0
    ∷ Set 2 0
    ∷ Halt ∷ []

-- the graph without the codes 0
abbrev pub small_graph : List Vertex
small_graph =
    Begin 1
    ∷ Tests 0 (6 ∷ 2 ∷ [])
    ∷ Tests 1 (3 ∷ 6 ∷ [])
    ∷ Assign 0 1 4
    ∷ Assign 1 2 5
    ∷ Assign 2 1 6
    ∷ End ∷ []

-- and its code
abbrev pub small_code : List Instr
small_code =
    Test 0 (5 ∷ 1 ∷ [])
    ∷ Test 1 (2 ∷ 5 ∷ [])
    ∷ Set 0 1
    ∷ Set 1 2
    ∷ Set 2 1
    ∷ Halt ∷ []

abbrev pub small_part : Part
small_part = record {
  order = lamp_order;
  first = 8;
  count = 8;
  graph = small_graph;
  code = small_code;
}

abbrev pub small_part_text : List ℕ
small_part_text =
    line (codes "machine lamp_ctl")
    ++ line (codes "order in press, st s, go, to s, out light")
    ++ line (codes "diagram 8 8")
    ++ line (codes "vertices 7")
    ++ line (codes "0 begin 1")
    ++ line (codes "1 test in press 6 2")
    ++ line (codes "2 test st s 3 6")
    ++ line (codes "3 assign go 1 4")
    ++ line (codes "4 assign to s 2 5")
    ++ line (codes "5 assign out light 1 6")
    ++ line (codes "6 end")
    ++ line (codes "code 6")
    ++ line (codes "0 test in press 5 1")
    ++ line (codes "1 test st s 2 5")
    ++ line (codes "2 set go 1")
    ++ line (codes "3 set to s 2")
    ++ line (codes "4 set out light 1")
    ++ line (codes "5 halt")

abbrev pub small_listing : List ℕ
small_listing =
    line (codes "polis listing 1") ++ small_part_text ++ line (codes "end")
