use Rattle.std.proofs.Common.{◌≡◌, ◌<◌, IsTrue, take}
use Rattle.domains.specs.AllCodes.{all_codes}
use Rattle.domains.specs.Tables.{fits, product, rank}
use Rattle.table_use.specs.inner.Walking.{IsWalked}
use Rattle.table_use.proofs.walk.walk.Given as goal

-- the snapshots before this one, which has this number
abbrev pub invariant-loop-n : goal.invariant-loop-n
invariant-loop-n l = record {
  walked : IsWalked l.lookup.machine.now (take l.n (all_codes l.lookup.machine.now.vars)) l.walked;
  fits : IsTrue (fits l.lookup.machine.now.vars l.codes);
  rank : l.n < product l.lookup.machine.now.vars → rank l.lookup.machine.now.vars l.codes ≡ l.n;
}
