use Rattle.std.proofs.Common.{codes, flat_map}
use Rattle.polis_base.specs.Lines.{line}
use Rattle.polis_base.specs.Lists.{numbered}
use Rattle.graph_drawing.specs.Drawings.{begin_line, env_line, out_line, machine_line, event_edges, end_line}
use Rattle.graph_drawing.proofs.NetworkText.{seven_parts}
use Rattle.graph_drawing.proofs.network_text.push_network.Goals as goal

pub returns : goal.returns
returns c =
    let net = c.args.net.now in
    seven_parts c.args.into.now (begin_line net.name) (line (codes "  rankdir=LR;")) (env_line net)
    (out_line net) (numbered machine_line 0 net.machines) (flat_map (event_edges net) net.events)
    end_line c.push_begin.new.into c.push.new.self c.push_env.new.into c.push_out.new.into
    c.push_machines.new.into c.push_events.new.into c.push-2.new.self c.in_ok-push_begin.ensures
    c.in_ok-push.ensures.ok c.in_ok-push_env.ensures c.in_ok-push_out.ensures
    c.in_ok-push_machines.ensures c.in_ok-push_events.ensures c.in_ok-push-2.ensures.ok
