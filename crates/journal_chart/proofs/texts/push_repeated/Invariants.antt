use Rattle.std.proofs.Common.{◌≡◌, ◌++◌, replicate}
use Rattle.journal_chart.proofs.texts.push_repeated.Given as goal

-- so many are written
abbrev pub invariant-loop-k : goal.invariant-loop-k
invariant-loop-k l = l.into ≡ l.fn.into ++ replicate l._k l.byte
