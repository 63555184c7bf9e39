use Rattle.std.proofs.Common.{◌≡◌, ℕ, length}
use Rattle.std.specs.Int.{bit_at}
use Rattle.polis_base.specs.Sets.{members}
use Rattle.determinism.specs.inner.Sayers.{IsFar}
use Rattle.determinism.proofs.sayers.far_in.Given as goal

-- the places that are left are denied
abbrev pub invariant-loop-left : goal.invariant-loop-left
invariant-loop-left l = record {
  far : (i : ℕ) → bit_at l.far i ≡ 1 → IsFar l.sayers l.block l.fn.denied i;
  inside : (i : ℕ) → bit_at l.left i ≡ 1 → bit_at l.fn.denied i ≡ 1;
}

abbrev pub decreases-loop-left : goal.decreases-loop-left
decreases-loop-left l = length (members l.left)
