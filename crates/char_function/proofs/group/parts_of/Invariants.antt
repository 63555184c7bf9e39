use Rattle.std.proofs.Common.{◌≡◌, ◌<◌, ℕ, [], length, take, get_or}
use Rattle.char_function.specs.inner.Groups.{with_code}
use Rattle.char_function.specs.inner.Points.{points}
use Rattle.char_function.proofs.group.parts_of.Given as goal

abbrev pub invariant-loop-i : goal.invariant-loop-i
invariant-loop-i l = record {
  long : length l.parts.items ≡ l.size;
  parts : (code : ℕ) → code < l.size
      → get_or l.parts.items code [] ≡ with_code (points l.m) l.item (take l.i-index l.group) code;
}
