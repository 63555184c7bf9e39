use Rattle.std.proofs.Common.{drop, IsTrue}
use Rattle.domains.specs.Tables.{are_greatest}
use Rattle.domains.proofs.codes.last_below.Given as goal

abbrev pub invariant-loop-k : goal.invariant-loop-k
invariant-loop-k l = IsTrue (are_greatest (drop l.k l.vars) (drop l.k l.codes))
