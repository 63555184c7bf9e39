use Rattle.std.proofs.Common.{◌≡◌, ◌<◌, ◌==◌, ℕ, nat_lt, length, slice_index}
use Rattle.std.specs.Int.{bit_at}
use Rattle.transition_table.proofs.row_codes.whole.Given as goal

-- the sets before this one
abbrev pub invariant-loop-var : goal.invariant-loop-var
invariant-loop-var l = record {
  long : length l.sets ≡ l.var;
  each : (k : ℕ) → k < l.var → (code : ℕ)
      → (bit_at (slice_index l.sets k) code == 1) ≡ nat_lt code (slice_index l.machine.vars k);
}
