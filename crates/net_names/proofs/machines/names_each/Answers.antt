use Rattle.net_names.specs.Machines.{IsMachineNames}
use Rattle.net_names.proofs.Zips.{zip_step}
use Rattle.net_names.proofs.machines.names_each.Goals as goal

pub loop-machine-preserved : goal.loop-machine-preserved
loop-machine-preserved c =
    let own : IsMachineNames c.args.scope.now.raw.now c.machine-item.result c.in_ok-names.names =
    ((λ i. (c.in_ok-names.ensures.scope i).raw.now), c.in_ok-names.ensures.machine) in
    zip_step (IsMachineNames c.args.scope.now.raw.now) c.args.machines.now
    c.loop-machine.machine-index c.machine-item.result c.loop-machine.made c.in_ok-names.names c.push.new.self
    c.loop-machine-test.true c.machine-item.is c.in_ok-push.ensures.ok own
    c.loop-machine.invariant
