use Rattle.std.proofs.Common.{◌≡◌, take}
use Rattle.order_sift.proofs.turns.moved.Given as goal

abbrev pub invariant-loop-k : goal.invariant-loop-k
invariant-loop-k l = l.list.items ≡ take l.k l.order
