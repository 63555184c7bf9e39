use Rattle.std.proofs.Common.{◌<◌, ◌≤◌, ℕ, length, slice_index}
use Rattle.order_sift.proofs.turns.place_of_least.Given as goal

abbrev pub invariant-loop-k : goal.invariant-loop-k
invariant-loop-k l = record {
  within : l.best < length l.numbers;
  least : (k : ℕ) → k < l.k → slice_index l.numbers l.best ≤ slice_index l.numbers k;
  first : (k : ℕ) → k < l.best → slice_index l.numbers l.best < slice_index l.numbers k;
  passed : l.best ≤ l.k;
}
