use Rattle.std.proofs.Common.{◌≡◌, ◌<◌, ◌++◌, take, drop}
use Rattle.domains.specs.Tables.{stepped}
use Rattle.domains.proofs.codes.step.Given as goal

abbrev pub invariant-loop-after : goal.invariant-loop-after
invariant-loop-after l = (l.k < l.after)
    × (l.codes ≡ take l.after (stepped l.fn.codes l.k) ++ drop l.after l.fn.codes)
