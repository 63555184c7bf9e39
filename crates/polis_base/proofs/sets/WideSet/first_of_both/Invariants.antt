use Rattle.std.proofs.Common.{◌≡◌, ◌<◌, ◌&&◌, ◌==◌, ℕ, false, slice_index}
use Rattle.std.specs.Int.{bit_at}
use Rattle.polis_base.proofs.sets.WideSet.first_of_both.Given as goal

-- no number of the words before this one is in both
abbrev pub invariant-loop-w : goal.invariant-loop-w
invariant-loop-w l = (k i : ℕ) → k < l.w
    → (bit_at (slice_index l.self-inside.words k) i == 1
    && bit_at (slice_index l.other-inside.words k) i == 1) ≡ false
