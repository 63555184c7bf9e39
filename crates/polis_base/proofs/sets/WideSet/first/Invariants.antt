use Rattle.std.proofs.Common.{◌≡◌, ℕ, nat_lt}
use Rattle.polis_base.specs.Sets.{has_member}
use Rattle.polis_base.proofs.sets.WideSet.first.Given as goal

abbrev pub invariant-loop-k : goal.invariant-loop-k
invariant-loop-k l = (j : ℕ) → has_member l.set j ≡ nat_lt j l.k
