-- Drawings in Graphviz' language DOT: a network, and then the graph of each of its machines.
use Rattle.std.specs.Prelude.{ℕ, Bool, true, false, cond, ◌==◌, List, [], ◌∷◌, ◌++◌, map, filter, flat_map, length, Option, Some, None, slice_get, option_map, unwrap_or, codes, decimal}
use Rattle.std.specs.List.{list_any}
use Rattle.polis_base.specs.Lines.{line}
use Rattle.polis_base.specs.Lists.{upto, places_where, numbered}
use Rattle.transition_table.specs.NetworkFacts.{has}
use Rattle.transition_table.specs.declared.decl.Party.{Party}
use Rattle.transition_table.specs.declared.decl.Party.TheVariants.{Env, Machine as Sender}
use Rattle.transition_table.specs.declared.decl.EventDecl.{EventDecl}
use Rattle.transition_table.specs.declared.machine.Machine.{Machine}
use Rattle.transition_table.specs.declared.network.Network.{Network}
use Rattle.sgraph.specs.declared.vertex.Vertex.{Vertex}
use Rattle.sgraph.specs.declared.vertex.Vertex.TheVariants.{Begin, Test, Assign, End}
use Rattle.graph_drawing.specs.Words.{words_text, domain_text, var_name, code_word, assign_label}

abbrev pub begin_line : List ℕ → List ℕ
begin_line name = line (codes "digraph \"" ++ name ++ codes "\" {")

abbrev pub end_line : List ℕ
end_line = line (codes "}")

abbrev pub only_if : Bool → List ℕ → List ℕ
only_if b text = cond b text []

-- ---- the network
abbrev pub is_env : Party → Bool
is_env Env = true
is_env (Sender m) = false

-- the environment as a sender, where an event comes from it
abbrev pub env_line : Network → List ℕ
env_line net =
    only_if (list_any (λ event. is_env event.sender) net.events)
    (line (codes "  env [label=\"environment\", shape=plaintext];"))

-- the environment as a receiver, where an event goes to it
abbrev pub out_line : Network → List ℕ
out_line net =
    only_if (list_any (λ event. event.to_env) net.events)
    (line (codes "  out [label=\"environment\", shape=plaintext];"))

abbrev pub machine_line : ℕ → Machine → List ℕ
machine_line k m =
    line (codes "  m" ++ decimal k ++ codes " [label=\"" ++ m.name ++ codes "\\npriority "
    ++ decimal m.priority ++ codes "\", shape=box];")

abbrev pub sender_node : Party → List ℕ
sender_node Env = codes "env"
sender_node (Sender m) = codes "m" ++ decimal m

-- the domain of an event's values after a colon, where it has one
abbrev pub domain_suffix : Network → Option ℕ → List ℕ
domain_suffix net None = []
domain_suffix net (Some d) =
    codes ": " ++ unwrap_or (option_map domain_text (slice_get net.domains d)) []

-- the label of an edge of an event, which ends its line
abbrev pub event_label : Network → EventDecl → List ℕ
event_label net event =
    line (codes " [label=\"" ++ event.name ++ domain_suffix net event.domain ++ codes "\"];")

-- an edge of an event from its sender to this node
abbrev pub event_edge : Network → EventDecl → List ℕ → List ℕ
event_edge net event node =
    codes "  " ++ sender_node event.sender ++ codes " -> " ++ node ++ event_label net event

abbrev pub machine_edge : Network → EventDecl → ℕ → List ℕ
machine_edge net event m = event_edge net event (codes "m" ++ decimal m)

-- an edge to each machine that reads the event, and then one to the environment where it does
abbrev pub event_edges : Network → EventDecl → List ℕ
event_edges net event =
    flat_map (machine_edge net event) event.receivers
    ++ only_if event.to_env (event_edge net event (codes "out"))

abbrev pub network_text : Network → List ℕ
network_text net =
    begin_line net.name
    ++ line (codes "  rankdir=LR;")
    ++ env_line net
    ++ out_line net
    ++ numbered machine_line 0 net.machines
    ++ flat_map (event_edges net) net.events
    ++ end_line

-- ---- a graph
abbrev pub vertex_label : Network → Machine → Vertex → List ℕ
vertex_label net m (Begin next) = codes "begin " ++ m.name
vertex_label net m (Test var kids) = var_name net m var
vertex_label net m (Assign result code next) = assign_label net m result code
vertex_label net m End = codes "end"

abbrev pub vertex_shape : Vertex → List ℕ
vertex_shape (Begin next) = codes "oval"
vertex_shape (Test var kids) = codes "diamond"
vertex_shape (Assign result code next) = codes "box"
vertex_shape End = codes "oval"

abbrev pub vertex_line : Network → Machine → ℕ → Vertex → List ℕ
vertex_line net m k v =
    line (codes "  v" ++ decimal k ++ codes " [label=\"" ++ vertex_label net m v
    ++ codes "\", shape=" ++ vertex_shape v ++ codes "];")

-- the codes that lead to a child, in order
abbrev pub codes_to : ℕ → List ℕ → List ℕ
codes_to child kids = places_where (λ kid. kid == child) kids

-- the edge of a test to a child: the words of the codes that lead there
abbrev pub test_edge : Network → Machine → ℕ → ℕ → List ℕ → ℕ → List ℕ
test_edge net m k var kids child =
    line (codes "  v" ++ decimal k ++ codes " -> v" ++ decimal child ++ codes " [label=\""
    ++ words_text (map (code_word net m var) (codes_to child kids)) ++ codes "\"];")

abbrev pub plain_edge : ℕ → ℕ → List ℕ
plain_edge k next = line (codes "  v" ++ decimal k ++ codes " -> v" ++ decimal next ++ codes ";")

-- the edges from a vertex of a graph of so many; a test has one to each vertex that is its child,
-- by number
abbrev pub vertex_edges : Network → Machine → ℕ → ℕ → Vertex → List ℕ
vertex_edges net m count k (Begin next) = plain_edge k next
vertex_edges net m count k (Test var kids) =
    flat_map (test_edge net m k var kids) (filter (has kids) (upto count))
vertex_edges net m count k (Assign result code next) = plain_edge k next
vertex_edges net m count k End = []

abbrev pub graph_text : Network → Machine → List Vertex → List ℕ
graph_text net m g =
    begin_line m.name
    ++ numbered (vertex_line net m) 0 g
    ++ numbered (vertex_edges net m (length g)) 0 g
    ++ end_line

-- the machines and their graphs, side by side
abbrev pub graphs_text : Network → List Machine → List (List Vertex) → List ℕ
graphs_text net [] gs = []
graphs_text net (m ∷ ms) [] = []
graphs_text net (m ∷ ms) (g ∷ gs) = graph_text net m g ++ graphs_text net ms gs

-- the drawing of the network, and then those of the graphs
abbrev pub DrawingText : Network → List (List Vertex) → List ℕ
DrawingText net graphs = network_text net ++ graphs_text net net.machines graphs
