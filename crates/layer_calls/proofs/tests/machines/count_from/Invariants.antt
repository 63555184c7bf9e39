use Rattle.std.proofs.Common.{IsTrue}
use Rattle.domains.specs.Tables.{fits}
use Rattle.layer_calls.proofs.tests.machines.count_from.Given as goal

-- the codes fit
abbrev pub invariant-loop-count : goal.invariant-loop-count
invariant-loop-count l = IsTrue (fits l.vars l.codes)
