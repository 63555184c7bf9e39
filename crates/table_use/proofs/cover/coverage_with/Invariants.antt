use Rattle.std.proofs.Common.{◌≡◌, take}
use Rattle.table_use.specs.Coverage.{coverages}
use Rattle.table_use.specs.Memos.{AreMemos}
use Rattle.table_use.proofs.cover.coverage_with.Given as goal

-- what the entries before this one used, and what is known of snapshots
abbrev pub invariant-loop-p : goal.invariant-loop-p
invariant-loop-p l = record {
  used : l.used.items ≡ coverages l.net (take l.p l.j);
  memos : AreMemos l.net l.tables l.memos.items;
}
