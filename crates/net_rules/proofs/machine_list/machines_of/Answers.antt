use Rattle.net_names.proofs.Zips.{zip_step}
use Rattle.net_rules.specs.Networks.{IsMachineOf}
use Rattle.net_rules.specs.inner.Sound.{IsSoundMachine}
use Rattle.net_rules.proofs.Zips.{each_item}
use Rattle.net_rules.proofs.machine_list.machines_of.Goals as goal

pub machine_named-requires-clause-machine : goal.machine_named-requires-clause-machine
machine_named-requires-clause-machine c =
    each_item (IsSoundMachine c.args.scope.now.raw.now) c.args.machines.now
    c.loop-machine.machine-index c.machine-item.result c.loop-machine-test.true
    c.machine-item.is c.requires.machines

pub loop-machine-preserved : goal.loop-machine-preserved
loop-machine-preserved c =
    zip_step (IsMachineOf c.args.scope.now.raw.now) c.args.machines.now
    c.loop-machine.machine-index c.machine-item.result c.loop-machine.made
    c.in_ok-next.next c.push.new.self c.loop-machine-test.true c.machine-item.is
    c.in_ok-push.ensures.ok c.in_ok-next.ensures c.loop-machine.invariant
