use Rattle.std.proofs.Common.{◌≡◌, ◌++◌, take}
use Rattle.journal_chart.specs.Labels.{joined}
use Rattle.journal_chart.proofs.texts.push_joined.Given as goal

-- the texts before this one are written
abbrev pub invariant-loop-k : goal.invariant-loop-k
invariant-loop-k l = l.into ≡ l.fn.into ++ joined l.between (take l.k l.texts)
