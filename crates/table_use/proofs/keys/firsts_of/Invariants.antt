use Rattle.table_use.proofs.EqualOutcomes.{AreFirstsBefore}
use Rattle.table_use.proofs.keys.firsts_of.Given as goal

-- those before this one
abbrev pub invariant-loop-k : goal.invariant-loop-k
invariant-loop-k l = AreFirstsBefore l.outcomes l.k l.firsts l.known
