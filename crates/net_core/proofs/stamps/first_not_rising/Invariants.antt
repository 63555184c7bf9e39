use Rattle.std.proofs.Common.{take}
use Rattle.net_core.specs.inner.Clocks.{AreClocks}
use Rattle.journals.specs.Stamps.{Rising}
use Rattle.net_core.proofs.stamps.first_not_rising.Given as goal
use Rattle.journals.specs.Logs.{with_stamps}

-- the stamps before this one are Rising
abbrev pub invariant-loop-i : goal.invariant-loop-i
invariant-loop-i l = record {
  rising : Rising l.net (take l.i l.j) (take l.i l.s);
  clocks_are : AreClocks l.net (with_stamps (take l.i l.j) (take l.i l.s)) l.clocks;
}
