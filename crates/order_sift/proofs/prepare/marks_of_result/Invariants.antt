use Rattle.std.proofs.Common.{◌≡◌, ◌+◌, length}
use Rattle.std.specs.Prelude.{filter}
use Rattle.polis_base.specs.Lists.{upto}
use Rattle.order_sift.specs.inner.Classes.{matters}
use Rattle.order_sift.proofs.prepare.marks_of_result.Given as goal

abbrev pub invariant-loop-i : goal.invariant-loop-i
invariant-loop-i l = l.marks ≡ filter (matters l.m (length l.m.vars + l.y)) (upto l.i)
