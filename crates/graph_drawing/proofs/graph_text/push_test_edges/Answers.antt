use Rattle.std.proofs.Common.{◌≡◌, ℕ, ◌++◌, flat_map, ap, ◌∙◌, arith}
use Rattle.graph_drawing.specs.Drawings.{test_edge}
use Rattle.graph_drawing.proofs.IsNext.{kids_below, first_edges, more_edges}
use Rattle.graph_drawing.proofs.graph_text.push_test_edges.Goals as goal

pub loop-child-init : goal.loop-child-init
loop-child-init c = record {
  within = c.next_child-child.ensures.within;
  is = c.next_child-child.ensures.is;
  edges = first_edges (test_edge c.args.net.now c.args.machine.now c.args.k c.args.var
      c.args.kids.now) c.args.kids.now c.args.count c.next_child-child.result c.args.into.now
      c.next_child-child.ensures;
}

pub loop-child-preserved : goal.loop-child-preserved
loop-child-preserved c = record {
  within = c.next_child-child-in-loop-child.ensures.within;
  is = c.next_child-child-in-loop-child.ensures.is;
  edges = more_edges (test_edge c.args.net.now c.args.machine.now c.args.k c.args.var
      c.args.kids.now) c.args.kids.now c.args.count c.loop-child.child
      c.next_child-child-in-loop-child.result c.args.into.now c.loop-child.into
      c.push_test_edge.new.into c.loop-child.invariant.edges
      (c.loop-child.invariant.is c.loop-child-test.true) c.in_ok-push_test_edge.ensures
      c.next_child-child-in-loop-child.ensures;
}

pub returns : goal.returns
returns c =
    let within = c.loop-child.invariant.within in
    let done = c.loop-child-test.false in
    let all : c.loop-child.child ≡ c.args.count = omega arith in
    c.loop-child.invariant.edges
    ∙ ap (λ (n : ℕ). c.args.into.now ++ flat_map (test_edge c.args.net.now c.args.machine.now
    c.args.k c.args.var c.args.kids.now) (kids_below c.args.kids.now n)) all
