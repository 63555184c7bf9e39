use Rattle.std.proofs.Common.{◌++◌}
use Rattle.polis_base.specs.Lists.{numbered}
use Rattle.graph_drawing.specs.Drawings.{machine_line}
use Rattle.polis_base.proofs.Numbered.{more_numbered}
use Rattle.graph_drawing.proofs.network_text.push_machines.Goals as goal

pub loop-k-preserved : goal.loop-k-preserved
loop-k-preserved c =
    more_numbered machine_line c.args.net.now.machines c.loop-k.k c.get.result.now c.loop-k.into
    c.push_machine.new.into
    (c.args.into.now ++ numbered machine_line 0 c.args.net.now.machines) c.loop-k.invariant
    c.get.ensures c.in_ok-push_machine.ensures
