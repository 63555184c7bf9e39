use Rattle.worker_core.proofs.AtStart.{start_state, first_parts_are}
use Rattle.worker_core.proofs.running.first_parts.Goals as goal

pub returns-clause-state : goal.returns-clause-state
returns-clause-state c =
    start_state c.args.net.now c.args.trace.now c.len-machines.result c.in_ok-logs.logs
    c.in_ok-hands.hands.items c.in_ok-rest.rest
    c.len-machines.ensures c.in_ok-logs.ensures c.in_ok-hands.ensures c.in_ok-rest.ensures

pub returns-clause-parts : goal.returns-clause-parts
returns-clause-parts c =
    first_parts_are c.args.net.now c.args.trace.now _ c.core_laws.ensures.start c.requires
    (start_state c.args.net.now c.args.trace.now c.len-machines.result c.in_ok-logs.logs
    c.in_ok-hands.hands.items c.in_ok-rest.rest
    c.len-machines.ensures c.in_ok-logs.ensures c.in_ok-hands.ensures c.in_ok-rest.ensures)
    c.in_ok-moments.ensures
