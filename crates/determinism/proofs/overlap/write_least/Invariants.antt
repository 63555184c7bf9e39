use Rattle.std.proofs.Common.{◌≡◌, ◌<◌, ◌≤◌, ℕ, length, slice_index}
use Rattle.std.specs.Int.{bit_at}
use Rattle.determinism.proofs.overlap.write_least.Given as goal

-- the codes before this one are written
abbrev pub invariant-loop-k : goal.invariant-loop-k
invariant-loop-k l = record {
  same : length l.codes ≡ length l.fn.codes;
  inside : (j : ℕ) → j < l.k → bit_at (slice_index l.sets j) (slice_index l.codes j) ≡ 1;
  least : (j code : ℕ) → j < l.k → bit_at (slice_index l.sets j) code ≡ 1
      → slice_index l.codes j ≤ code;
}
