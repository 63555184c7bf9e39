use Rattle.std.proofs.Common.{◌≡◌, ◌<◌, ◌≤◌, ℕ, length, slice_index}
use Rattle.journals.specs.Moved.{code_after}
use Rattle.journals.proofs.moments.move_on.Given as goal

-- the codes before this one are moved on, the others are as they were
abbrev pub invariant-loop-k : goal.invariant-loop-k
invariant-loop-k l =
    (length l.s.codes ≡ length l.fn.s.codes)
    × ((i : ℕ) → i < l.k
    → slice_index l.s.codes i ≡ code_after l.machine l.entry i (slice_index l.fn.s.codes i))
    × ((i : ℕ) → l.k ≤ i → slice_index l.s.codes i ≡ slice_index l.fn.s.codes i)
