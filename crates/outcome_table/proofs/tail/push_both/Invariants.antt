use Rattle.std.proofs.Common.{◌≡◌, ◌+◌, ◌<◌, ℕ, [], length, take, get_or}
use Rattle.polis_base.specs.Sets.{IsBoth}
use Rattle.outcome_table.proofs.tail.push_both.Given as goal

-- those with the sets before this one
abbrev pub invariant-loop-j : goal.invariant-loop-j
invariant-loop-j l = record {
  kept : take (length l.fn.tails) l.tails ≡ l.fn.tails;
  long : length l.tails ≡ length l.fn.tails + l.j;
  each : (k : ℕ) → k < l.j
      → IsBoth l.set (get_or l.later k []) (get_or l.tails (length l.fn.tails + k) []);
}
