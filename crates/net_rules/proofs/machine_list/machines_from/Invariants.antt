-- The machines that are left keep the rules. Those of which they are made go after those that were
-- made, as the declarations do.
use Rattle.std.proofs.Common.{◌≡◌, ◌++◌, List, length}
use Rattle.std.specs.List.{AllZip}
use Rattle.std.specs.Vec.Iter.{into_iter_items, into_iter_len}
use Rattle.transition_table.specs.declared.machine.Machine.{Machine}
use Rattle.net_rules.specs.Networks.{IsMachineOf}
use Rattle.net_rules.specs.inner.Sound.{Each, IsSoundMachine}
use Rattle.net_rules.proofs.machine_list.machines_from.Given as goal

abbrev pub invariant-loop-machine : goal.invariant-loop-machine
invariant-loop-machine l = record {
  count : into_iter_len l.machine-iterator ≡ length (into_iter_items l.machine-iterator);
  kept : Each (IsSoundMachine l.scope.raw.now) (into_iter_items l.machine-iterator);
  made :
      (more : List Machine)
      → AllZip (IsMachineOf l.scope.raw.now) (into_iter_items l.machine-iterator) more
      → AllZip (IsMachineOf l.scope.raw.now) l.fn.machines (l.made ++ more);
}
