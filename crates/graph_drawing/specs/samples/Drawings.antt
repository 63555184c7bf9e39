-- Drawings of small networks, byte by byte.
use Rattle.std.specs.Prelude.{ℕ, List, ◌++◌, codes}
use Rattle.polis_base.specs.Lines.{line}

abbrev pub lamp_network_drawing : List ℕ
lamp_network_drawing =
    line (codes "digraph \"lamp\" {")
    ++ line (codes "  rankdir=LR;")
    ++ line (codes "  env [label=\"environment\", shape=plaintext];")
    ++ line (codes "  out [label=\"environment\", shape=plaintext];")
    ++ line (codes "  m0 [label=\"lamp_ctl\\npriority 1\", shape=box];")
    ++ line (codes "  env -> m0 [label=\"press\"];")
    ++ line (codes "  m0 -> out [label=\"light\"];")
    ++ line (codes "}")

abbrev pub lamp_graph_drawing : List ℕ
lamp_graph_drawing =
    line (codes "digraph \"lamp_ctl\" {")
    ++ line (codes "  v0 [label=\"begin lamp_ctl\", shape=oval];")
    ++ line (codes "  v1 [label=\"press\", shape=diamond];")
    ++ line (codes "  v2 [label=\"s\", shape=diamond];")
    ++ line (codes "  v3 [label=\"go\", shape=box];")
    ++ line (codes "  v4 [label=\"s := on\", shape=box];")
    ++ line (codes "  v5 [label=\"emit light\", shape=box];")
    ++ line (codes "  v6 [label=\"end\", shape=oval];")
    ++ line (codes "  v0 -> v1;")
    ++ line (codes "  v1 -> v2 [label=\"present\"];")
    ++ line (codes "  v1 -> v6 [label=\"absent\"];")
    ++ line (codes "  v2 -> v3 [label=\"off\"];")
    ++ line (codes "  v2 -> v6 [label=\"on\"];")
    ++ line (codes "  v3 -> v4;")
    ++ line (codes "  v4 -> v5;")
    ++ line (codes "  v5 -> v6;")
    ++ line (codes "}")

-- the machine that joins a and b into c, by a graph with assignments of the code 0
abbrev pub join_drawing : List ℕ
join_drawing =
    line (codes "digraph \"join\" {")
    ++ line (codes "  rankdir=LR;")
    ++ line (codes "  env [label=\"environment\", shape=plaintext];")
    ++ line (codes "  out [label=\"environment\", shape=plaintext];")
    ++ line (codes "  m0 [label=\"m\\npriority 0\", shape=box];")
    ++ line (codes "  env -> m0 [label=\"a\"];")
    ++ line (codes "  env -> m0 [label=\"b\"];")
    ++ line (codes "  m0 -> out [label=\"c\"];")
    ++ line (codes "}")
    ++ line (codes "digraph \"m\" {")
    ++ line (codes "  v0 [label=\"begin m\", shape=oval];")
    ++ line (codes "  v1 [label=\"a\", shape=diamond];")
    ++ line (codes "  v2 [label=\"b\", shape=diamond];")
    ++ line (codes "  v3 [label=\"go\", shape=box];")
    ++ line (codes "  v4 [label=\"emit c\", shape=box];")
    ++ line (codes "  v5 [label=\"go 0\", shape=box];")
    ++ line (codes "  v6 [label=\"no c\", shape=box];")
    ++ line (codes "  v7 [label=\"end\", shape=oval];")
    ++ line (codes "  v0 -> v1;")
    ++ line (codes "  v1 -> v2 [label=\"present\"];")
    ++ line (codes "  v1 -> v5 [label=\"absent\"];")
    ++ line (codes "  v2 -> v3 [label=\"present\"];")
    ++ line (codes "  v2 -> v5 [label=\"absent\"];")
    ++ line (codes "  v3 -> v4;")
    ++ line (codes "  v4 -> v7;")
    ++ line (codes "  v5 -> v6;")
    ++ line (codes "  v6 -> v7;")
    ++ line (codes "}")

abbrev pub value_drawing : List ℕ
value_drawing =
    line (codes "digraph \"val\" {")
    ++ line (codes "  rankdir=LR;")
    ++ line (codes "  env [label=\"environment\", shape=plaintext];")
    ++ line (codes "  out [label=\"environment\", shape=plaintext];")
    ++ line (codes "  m0 [label=\"m\\npriority 0\", shape=box];")
    ++ line (codes "  env -> m0 [label=\"v: 0 .. 7\"];")
    ++ line (codes "  m0 -> out [label=\"hit\"];")
    ++ line (codes "}")
    ++ line (codes "digraph \"m\" {")
    ++ line (codes "  v0 [label=\"begin m\", shape=oval];")
    ++ line (codes "  v1 [label=\"v\", shape=diamond];")
    ++ line (codes "  v2 [label=\"go\", shape=box];")
    ++ line (codes "  v3 [label=\"emit hit\", shape=box];")
    ++ line (codes "  v4 [label=\"end\", shape=oval];")
    ++ line (codes "  v0 -> v1;")
    ++ line (codes "  v1 -> v2 [label=\"5\"];")
    ++ line (codes "  v1 -> v4 [label=\"absent, 0, 1, 2, 3, 4,\\n6, 7\"];")
    ++ line (codes "  v2 -> v3;")
    ++ line (codes "  v3 -> v4;")
    ++ line (codes "}")

-- an event that a machine and the environment read, and names on more than one line
abbrev pub week_network_drawing : List ℕ
week_network_drawing =
    line (codes "digraph \"week\" {")
    ++ line (codes "  rankdir=LR;")
    ++ line (codes "  env [label=\"environment\", shape=plaintext];")
    ++ line (codes "  out [label=\"environment\", shape=plaintext];")
    ++ line (codes "  m0 [label=\"days\\npriority 2\", shape=box];")
    ++ line (codes "  m1 [label=\"bell\\npriority 1\", shape=box];")
    ++ line (codes "  env -> m0 [label=\"today: { mon, tue, wed, thu, fri, sat,\\nsun }\"];")
    ++ line (codes "  m0 -> m1 [label=\"rest: { mon, tue, wed, thu, fri, sat,\\nsun }\"];")
    ++ line (codes "  m0 -> out [label=\"rest: { mon, tue, wed, thu, fri, sat,\\nsun }\"];")
    ++ line (codes "  m1 -> out [label=\"ring\"];")
    ++ line (codes "}")

-- a test with three children, whose numbers don't rise with the codes
abbrev pub days_drawing : List ℕ
days_drawing =
    line (codes "digraph \"days\" {")
    ++ line (codes "  v0 [label=\"begin days\", shape=oval];")
    ++ line (codes "  v1 [label=\"today\", shape=diamond];")
    ++ line (codes "  v2 [label=\"emit rest = sun\", shape=box];")
    ++ line (codes "  v3 [label=\"emit rest = sat\", shape=box];")
    ++ line (codes "  v4 [label=\"go\", shape=box];")
    ++ line (codes "  v5 [label=\"end\", shape=oval];")
    ++ line (codes "  v0 -> v1;")
    ++ line (codes "  v1 -> v2 [label=\"sun\"];")
    ++ line (codes "  v1 -> v3 [label=\"sat\"];")
    ++ line (codes "  v1 -> v5 [label=\"absent, mon, tue, wed, thu, fri\"];")
    ++ line (codes "  v2 -> v4;")
    ++ line (codes "  v3 -> v4;")
    ++ line (codes "  v4 -> v5;")
    ++ line (codes "}")

abbrev pub bell_drawing : List ℕ
bell_drawing =
    line (codes "digraph \"bell\" {")
    ++ line (codes "  v0 [label=\"begin bell\", shape=oval];")
    ++ line (codes "  v1 [label=\"rest\", shape=diamond];")
    ++ line (codes "  v2 [label=\"go\", shape=box];")
    ++ line (codes "  v3 [label=\"emit ring\", shape=box];")
    ++ line (codes "  v4 [label=\"end\", shape=oval];")
    ++ line (codes "  v0 -> v1;")
    ++ line (codes "  v1 -> v2 [label=\"sun\"];")
    ++ line (codes "  v1 -> v4 [label=\"absent, mon, tue, wed, thu, fri,\\nsat\"];")
    ++ line (codes "  v2 -> v3;")
    ++ line (codes "  v3 -> v4;")
    ++ line (codes "}")

-- two machines that read one event
abbrev pub two_drawing : List ℕ
two_drawing =
    line (codes "digraph \"two\" {")
    ++ line (codes "  rankdir=LR;")
    ++ line (codes "  env [label=\"environment\", shape=plaintext];")
    ++ line (codes "  out [label=\"environment\", shape=plaintext];")
    ++ line (codes "  m0 [label=\"a\\npriority 10\", shape=box];")
    ++ line (codes "  m1 [label=\"b\\npriority 0\", shape=box];")
    ++ line (codes "  env -> m0 [label=\"x\"];")
    ++ line (codes "  env -> m1 [label=\"x\"];")
    ++ line (codes "  m0 -> out [label=\"ya\"];")
    ++ line (codes "  m1 -> out [label=\"yb\"];")
    ++ line (codes "}")

-- no event goes to the environment
abbrev pub pong_drawing : List ℕ
pong_drawing =
    line (codes "digraph \"pong\" {")
    ++ line (codes "  rankdir=LR;")
    ++ line (codes "  env [label=\"environment\", shape=plaintext];")
    ++ line (codes "  m0 [label=\"a\\npriority 1\", shape=box];")
    ++ line (codes "  m1 [label=\"b\\npriority 1\", shape=box];")
    ++ line (codes "  env -> m0 [label=\"go\"];")
    ++ line (codes "  m0 -> m1 [label=\"p\"];")
    ++ line (codes "  m1 -> m0 [label=\"q\"];")
    ++ line (codes "}")
