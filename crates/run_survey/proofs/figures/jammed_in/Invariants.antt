use Rattle.std.proofs.Common.{◌≡◌, map, take}
use Rattle.table_use.specs.declared.used.MachineUse.{MachineUse}
use Rattle.run_survey.proofs.figures.jammed_in.Given as goal

-- those of the machines before this one
abbrev pub invariant-loop-machine : goal.invariant-loop-machine
invariant-loop-machine l =
    l.numbers ≡ map (λ (used : MachineUse). used.jammed.count) (take l.machine-index l.used)
