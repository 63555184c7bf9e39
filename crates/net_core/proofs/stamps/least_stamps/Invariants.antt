use Rattle.std.proofs.Common.{◌≡◌, take}
use Rattle.net_core.specs.inner.Clocks.{AreClocks}
use Rattle.journals.specs.Stamps.{least}
use Rattle.net_core.proofs.stamps.least_stamps.Given as goal
use Rattle.journals.specs.Logs.{with_stamps}

-- the entries before this one have their least stamps
abbrev pub invariant-loop-i : goal.invariant-loop-i
invariant-loop-i l = record {
  stamps_are : l.stamps ≡ least l.net (take l.i l.j);
  clocks_are : AreClocks l.net (with_stamps (take l.i l.j) l.stamps) l.clocks;
}
