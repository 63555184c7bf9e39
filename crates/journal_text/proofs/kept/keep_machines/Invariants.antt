use Rattle.std.proofs.Common.{◌≡◌, true, take}
use Rattle.std.specs.List.{list_all}
use Rattle.journal_text.specs.Holding.{machine_holds}
use Rattle.journal_text.proofs.kept.keep_machines.Given as goal

-- those before this one hold
abbrev pub invariant-loop-machine : goal.invariant-loop-machine
invariant-loop-machine l = list_all machine_holds (take l.machine-index l.machines) ≡ true
