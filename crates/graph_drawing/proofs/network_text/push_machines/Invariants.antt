use Rattle.std.proofs.Common.{◌≡◌, ◌++◌, drop}
use Rattle.polis_base.specs.Lists.{numbered}
use Rattle.graph_drawing.specs.Drawings.{machine_line}
use Rattle.graph_drawing.proofs.network_text.push_machines.Given as goal

-- what is written, with what is left, is the whole
abbrev pub invariant-loop-k : goal.invariant-loop-k
invariant-loop-k l = l.into ++ numbered machine_line l.k (drop l.k l.net.machines)
    ≡ l.fn.into ++ numbered machine_line 0 l.net.machines
