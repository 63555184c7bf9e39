use Rattle.std.proofs.Common.{◌≡◌, ℕ, ◌<◌, ◌≤◌, length, slice_get, Some}
use Rattle.run_survey.specs.declared.told.Spread.{Spread}
use Rattle.run_survey.specs.inner.Joining.{joined}
use Rattle.run_survey.proofs.spread.join_spreads.Given as goal

-- those before this one are joined, the others are as they were
abbrev pub invariant-loop-i : goal.invariant-loop-i
invariant-loop-i l = record {
  long : length l.own ≡ length l.fn.own;
  done : (k : ℕ) (s t : Spread) → k < l.i → slice_get l.fn.own k ≡ Some s
      → slice_get l.next k ≡ Some t → slice_get l.own k ≡ Some (joined s t);
  rest : (k : ℕ) → l.i ≤ k → slice_get l.own k ≡ slice_get l.fn.own k;
}
