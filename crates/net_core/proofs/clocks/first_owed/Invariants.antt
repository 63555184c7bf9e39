use Rattle.std.proofs.Common.{◌≡◌, ◌≤◌, flat_map, length, drop}
use Rattle.net_core.specs.inner.Clocks.{left}
use Rattle.journals.specs.Stamps.{once_each}
use Rattle.net_core.proofs.clocks.first_owed.Given as goal

-- nothing of what is left stands in the firings before this one
abbrev pub invariant-loop-f : goal.invariant-loop-f
invariant-loop-f l = record {
  left_is : left l.net l.m l.firings l.cursor ≡ left l.net l.m l.firings l.fn.cursor;
  here : l.cursor.firing ≡ l.f;
  within : l.cursor.firing ≤ length l.firings;
  given : l.fn.cursor.taken ≤ length
      (flat_map (once_each l.net l.m) (drop l.fn.cursor.firing l.firings))
      → l.cursor.taken ≤ length (flat_map (once_each l.net l.m) (drop l.cursor.firing l.firings));
  few : l.cursor.taken ≤ l.fn.cursor.taken;
}
