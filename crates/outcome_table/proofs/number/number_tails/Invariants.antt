use Rattle.std.proofs.Common.{◌++◌, map, take, drop}
use Rattle.domains.specs.AllCodes.{all_codes}
use Rattle.outcome_table.specs.inner.Numbering.{Adds}
use Rattle.outcome_table.proofs.number.number_tails.Given as goal

-- those with the lists of codes before this one
abbrev pub invariant-loop-j : goal.invariant-loop-j
invariant-loop-j l = Adds l.narrowing.machine.now l.fn.made l.made
    (map (λ codes. take l.narrowing.tails.now.from l.s.codes ++ codes)
    (take l.j (all_codes (drop l.narrowing.tails.now.from l.narrowing.machine.now.vars))))
