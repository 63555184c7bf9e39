use Rattle.std.proofs.Common.{◌≡◌, ◌++◌, drop, replicate}
use Rattle.journal_chart.proofs.uses.alone.Given as goal

-- the codes before this one are 0
abbrev pub invariant-loop-k : goal.invariant-loop-k
invariant-loop-k l = l.other.codes ≡ replicate l.k 0 ++ drop l.k l.s.codes
