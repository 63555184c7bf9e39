-- The machines that were made are those of the declarations that were gone over.
use Rattle.std.proofs.Common.{take}
use Rattle.std.specs.List.{AllZip}
use Rattle.net_rules.specs.Networks.{IsMachineOf}
use Rattle.net_rules.proofs.machine_list.machines_of.Given as goal

abbrev pub invariant-loop-machine : goal.invariant-loop-machine
invariant-loop-machine l =
    AllZip (IsMachineOf l.scope.raw.now) (take l.machine-index l.machines) l.made
