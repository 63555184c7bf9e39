use Rattle.std.proofs.Common.{◌≡◌, ◌<◌, ◌≤◌, ◌-◌, ℕ, length, slice_get, Some}
use Rattle.std.specs.Int.{bit_at}
use Rattle.determinism.specs.declared.marks.Marks.{Marks}
use Rattle.determinism.proofs.sayers.next_near.Given as goal

-- the rows before this one are apart
abbrev pub invariant-loop-row : goal.invariant-loop-row
invariant-loop-row l = record {
  from : l.from ≤ l.row;
  apart : (k : ℕ) (marks : Marks) → l.from ≤ k → k < l.row → slice_get l.marks k ≡ Some marks
      → (place : ℕ) × (bit_at marks.said place ≡ 1) × (bit_at l.denied place ≡ 1);
}

abbrev pub decreases-loop-row : goal.decreases-loop-row
decreases-loop-row l = length l.marks - l.row
