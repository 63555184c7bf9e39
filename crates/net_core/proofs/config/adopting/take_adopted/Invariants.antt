use Rattle.std.proofs.Common.{◌≤◌, take}
use Rattle.net_core.specs.Tables.{AreTables}
use Rattle.net_core.proofs.config.adopting.take_adopted.Given as goal

-- the entries before this one are taken
abbrev pub invariant-loop-i : goal.invariant-loop-i
invariant-loop-i l = record {
  current : AreTables l.net l.trace (take l.i l.j) l.tables.readers.items l.tables.moments.items
      l.tables.woken l.tables.cursors l.tables.owed;
  few : l.i ≤ l.limit;
}
