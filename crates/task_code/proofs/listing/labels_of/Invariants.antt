use Rattle.task_code.proofs.LabelSteps.{Made}
use Rattle.task_code.proofs.listing.labels_of.Given as goal

-- the first variables have their words
abbrev pub invariant-loop-item : goal.invariant-loop-item
invariant-loop-item l = Made l.net l.machine l.labels l.item
