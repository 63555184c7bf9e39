use Rattle.std.proofs.Common.{◌≡◌, ℕ, take}
use Rattle.decision_diagram.specs.Sets.{stands}
use Rattle.order_sift.specs.inner.Known.{in_set}
use Rattle.order_sift.proofs.sets.first_items.Given as goal

abbrev pub invariant-loop-k : goal.invariant-loop-k
invariant-loop-k l = (w : ℕ) → in_set l.set w ≡ stands (take l.k l.order) w
