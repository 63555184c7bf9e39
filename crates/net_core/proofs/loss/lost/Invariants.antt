use Rattle.std.proofs.Common.{◌≡◌, ◌+◌, ◌≤◌, take, drop}
use Rattle.journals.specs.Moved.{moments_of}
use Rattle.journals.specs.Outputs.{lost, lost_after}
use Rattle.net_core.proofs.loss.lost.Given as goal

-- the losses of the entries from this one on are left to count
abbrev pub invariant-loop-i : goal.invariant-loop-i
invariant-loop-i l = record {
  moments_are : l.moments.items ≡ moments_of l.net (take l.i l.j);
  counted : l.count + lost_after l.net (take l.i l.j) (drop l.i l.j) ≡ lost l.net l.j;
  few : l.count ≤ l.i;
}
