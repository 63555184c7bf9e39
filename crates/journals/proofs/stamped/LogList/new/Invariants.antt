use Rattle.std.proofs.Common.{◌≡◌, [], replicate}
use Rattle.journals.proofs.stamped.LogList.new.Given as goal

abbrev pub invariant-loop : goal.invariant-loop
invariant-loop l = l.items.items ≡ replicate l.counter []
