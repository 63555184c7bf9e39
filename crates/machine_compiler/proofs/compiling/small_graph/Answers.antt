use Rattle.machine_compiler.proofs.compiling.small_graph.Goals as goal

pub returns : goal.returns
returns c = record {
  of_machine = c.in_ok-small.ensures.of_machine c.args.m.now c.args.order.now c.in_ok-graph.ensures;
  defaults = c.in_ok-small.ensures.defaults;
}
