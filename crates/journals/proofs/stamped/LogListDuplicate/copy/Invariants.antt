use Rattle.std.proofs.Common.{◌≡◌, take}
use Rattle.journals.proofs.stamped.LogListDuplicate.copy.Given as goal

abbrev pub invariant-loop-log : goal.invariant-loop-log
invariant-loop-log l = l.items.items ≡ take l.log-index l.log-items
