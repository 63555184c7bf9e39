use Rattle.polis_words.proofs.Snapshots.{Counted}
use Rattle.polis_words.proofs.print.accepted.snapshot_count.Given as goal

-- the variables so far are counted
abbrev pub invariant-loop-k : goal.invariant-loop-k
invariant-loop-k l = Counted l.machine.vars l.k l.count
