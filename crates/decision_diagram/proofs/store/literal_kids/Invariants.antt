use Rattle.std.proofs.Common.{◌≡◌, ◌==◌, ℕ, ◌<◌, length, slice_index}
use Rattle.std.specs.Int.{bit_at}
use Rattle.decision_diagram.specs.Constants.{constant_node}
use Rattle.decision_diagram.proofs.store.literal_kids.Given as goal

-- there is a child for each code so far
abbrev pub invariant-loop-code : goal.invariant-loop-code
invariant-loop-code l = record {
  long : length l.kids.items ≡ l.code;
  kids : (code : ℕ) → code < l.code → slice_index l.kids.items code
      ≡ constant_node (bit_at l.codes code == 1);
}
