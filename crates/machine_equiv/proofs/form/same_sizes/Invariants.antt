use Rattle.std.proofs.Common.{◌≡◌}
use Rattle.polis_base.specs.Lists.{AgreeBelow}
use Rattle.machine_equiv.proofs.form.same_sizes.Given as goal

abbrev pub invariant-loop-v : goal.invariant-loop-v
invariant-loop-v l = AgreeBelow (λ x y. x ≡ y) l.a l.b l.v
