use Rattle.std.proofs.Common.{◌≡◌, ℕ, [], length, get_or}
use Rattle.char_function.proofs.group.no_parts.Given as goal

abbrev pub invariant-loop : goal.invariant-loop
invariant-loop l = record {
  long : length l.parts.items ≡ l.counter;
  none : (code : ℕ) → get_or l.parts.items code [] ≡ [];
}
