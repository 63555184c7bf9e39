use Rattle.std.proofs.Common.{◌≡◌, ℕ, length}
use Rattle.std.specs.Int.{bit_at}
use Rattle.polis_base.specs.Sets.{members}
use Rattle.determinism.specs.inner.Sayers.{HasAdded}
use Rattle.determinism.proofs.sayers.add_row.Given as goal

-- the places that are left are said
abbrev pub invariant-loop-left : goal.invariant-loop-left
invariant-loop-left l = record {
  long : length l.sayers ≡ 512;
  added : HasAdded l.fn.sayers l.sayers l.row l.fn.said;
  inside : (i : ℕ) → bit_at l.left i ≡ 1 → bit_at l.fn.said i ≡ 1;
}

abbrev pub decreases-loop-left : goal.decreases-loop-left
decreases-loop-left l = length (members l.left)
