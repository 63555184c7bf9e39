use Rattle.std.proofs.Common.{◌≡◌, ◌<◌, ◌≤◌, ◌&&◌, ◌==◌, ℕ, length, slice_index}
use Rattle.std.specs.Int.{bit_at}
use Rattle.polis_base.proofs.sets.WideSet.both.Given as goal

-- the words before this one are done, and the others as they were
abbrev pub invariant-loop-w : goal.invariant-loop-w
invariant-loop-w l = record {
  long : length l.words ≡ length l.self;
  each : (k i : ℕ) → k < l.w → (bit_at (slice_index l.words k) i == 1)
      ≡ (bit_at (slice_index l.self k) i == 1
      && bit_at (slice_index l.other-inside.words k) i == 1);
  rest : (k : ℕ) → l.w ≤ k → slice_index l.words k ≡ slice_index l.self k;
}
