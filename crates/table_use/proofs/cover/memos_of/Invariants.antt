use Rattle.std.proofs.Common.{◌≡◌, ℕ, length, slice_get, Some}
use Rattle.outcome_table.specs.declared.table.Results.{Results}
use Rattle.transition_table.specs.declared.machine.Machine.{Machine}
use Rattle.table_use.specs.Memos.{IsMemo}
use Rattle.table_use.specs.declared.memo.Memo.{Memo}
use Rattle.table_use.proofs.cover.memos_of.Given as goal

-- those of the machines before this one
abbrev pub invariant-loop-m : goal.invariant-loop-m
invariant-loop-m l = record {
  long : length l.memos.items ≡ l.m;
  each : (k : ℕ) (m : Machine) (memo : Memo) → slice_get l.net.machines k ≡ Some m
      → slice_get l.memos.items k ≡ Some memo → (r : Results) → slice_get l.tables k ≡ Some r
      → IsMemo m r memo;
}
