use Rattle.std.proofs.Common.{◌≡◌, ◌<◌, ℕ, slice_index}
use Rattle.determinism.proofs.conflict.stands_before.Given as goal

-- the codes before this one are the same
abbrev pub invariant-loop-k : goal.invariant-loop-k
invariant-loop-k l = (j : ℕ) → j < l.k → slice_index l.codes j ≡ slice_index l.others j
