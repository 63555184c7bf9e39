use Rattle.std.proofs.Common.{◌≡◌, ◌++◌, drop}
use Rattle.task_code.specs.Listings.{label}
use Rattle.task_code.specs.inner.Labels.{others}
use Rattle.task_code.proofs.listing.push_others.Given as goal

-- what is written, with what is left, is the whole
abbrev pub invariant-loop-k : goal.invariant-loop-k
invariant-loop-k l = l.out ++ others (label l.net l.machine) (drop l.k l.order)
    ≡ l.fn.out ++ others (label l.net l.machine) (drop 1 l.order)
