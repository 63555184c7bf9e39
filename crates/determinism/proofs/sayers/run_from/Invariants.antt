use Rattle.std.proofs.Common.{◌≡◌, ◌<◌, ◌≤◌, ℕ}
use Rattle.std.specs.Int.{bit_at}
use Rattle.determinism.proofs.sayers.run_from.Given as goal

-- the numbers before this one are members
abbrev pub invariant-loop-k : goal.invariant-loop-k
invariant-loop-k l = (j : ℕ) → l.place ≤ j → j < l.k → bit_at l.set j ≡ 1
