use Rattle.std.proofs.Common.{◌≡◌}
use Rattle.std.specs.Prelude.{filter}
use Rattle.polis_base.specs.Lists.{upto}
use Rattle.order_sift.specs.inner.Classes.{matters}
use Rattle.order_sift.proofs.prepare.marks_of_variable.Given as goal

abbrev pub invariant-loop-i : goal.invariant-loop-i
invariant-loop-i l = l.marks ≡ filter (matters l.m l.v) (upto l.i)
