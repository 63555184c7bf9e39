use Rattle.std.proofs.Common.{◌≡◌, ◌++◌, drop, flat_map}
use Rattle.graph_drawing.specs.Drawings.{machine_edge}
use Rattle.graph_drawing.proofs.network_text.push_received.Given as goal

-- what is written, with what is left, is the whole
abbrev pub invariant-loop-m : goal.invariant-loop-m
invariant-loop-m l = l.into ++ flat_map (machine_edge l.net l.event) (drop l.m-index l.receivers)
    ≡ l.fn.into ++ flat_map (machine_edge l.net l.event) l.event.receivers
