use Rattle.std.proofs.Common.{◌≡◌}
use Rattle.polis_base.specs.Lists.{AgreeBelow}
use Rattle.machine_equiv.proofs.rows.same_rows.Given as goal

abbrev pub invariant-loop-r : goal.invariant-loop-r
invariant-loop-r l = AgreeBelow (λ x y. x ≡ y) l.a l.b l.r
