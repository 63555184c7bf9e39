use Rattle.std.proofs.Common.{◌≡◌, ◌<◌, ◌&&◌, ◌==◌, ℕ, length, slice_index}
use Rattle.std.specs.Int.{bit_at}
use Rattle.determinism.proofs.overlap.common.Given as goal

-- the sets before this one are written
abbrev pub invariant-loop-k : goal.invariant-loop-k
invariant-loop-k l = record {
  same : length l.sets ≡ length l.fn.sets;
  some : (j : ℕ) → j < l.k → 0 < slice_index l.sets j;
  both : (j code : ℕ) → j < l.k → (bit_at (slice_index l.sets j) code == 1)
      ≡ (bit_at (slice_index l.first j) code == 1 && bit_at (slice_index l.second j) code == 1);
}
