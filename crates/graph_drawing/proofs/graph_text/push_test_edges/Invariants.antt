use Rattle.std.proofs.Common.{◌≡◌, ◌<◌, ◌≤◌, ◌-◌, ◌++◌, true, flat_map}
use Rattle.transition_table.specs.NetworkFacts.{has}
use Rattle.graph_drawing.specs.Drawings.{test_edge}
use Rattle.graph_drawing.proofs.IsNext.{kids_below}
use Rattle.graph_drawing.proofs.graph_text.push_test_edges.Given as goal

-- the edges to the children before this one are written
abbrev pub invariant-loop-child : goal.invariant-loop-child
invariant-loop-child l = record {
  within : l.child ≤ l.count;
  is : l.child < l.count → has l.kids l.child ≡ true;
  edges : l.into
      ≡ l.fn.into ++ flat_map (test_edge l.net l.machine l.k l.var l.kids)
      (kids_below l.kids l.child);
}

abbrev pub decreases-loop-child : goal.decreases-loop-child
decreases-loop-child l = l.count - l.child
