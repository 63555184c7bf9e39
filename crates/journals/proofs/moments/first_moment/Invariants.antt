use Rattle.std.proofs.Common.{◌≡◌, ◌++◌, map, replicate, length, take}
use Rattle.journals.proofs.moments.first_moment.Given as goal

abbrev pub invariant-loop : goal.invariant-loop
invariant-loop l = l.codes ≡ replicate l.counter 0

abbrev pub invariant-loop-variable : goal.invariant-loop-variable
invariant-loop-variable l =
    l.codes
    ≡ replicate (length l.machine.inputs) 0
    ++ map (λ variable. variable.init) (take l.variable-index l.variable-items)
