-- The machines that were numbered are those that were gone over.
use Rattle.std.proofs.Common.{take}
use Rattle.net_names.specs.Machines.{AreMachineNames}
use Rattle.net_names.proofs.machines.names_each.Given as goal

abbrev pub invariant-loop-machine : goal.invariant-loop-machine
invariant-loop-machine l = AreMachineNames l.scope.raw.now (take l.machine-index l.machines) l.made
