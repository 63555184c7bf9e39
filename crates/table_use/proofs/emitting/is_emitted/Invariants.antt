use Rattle.std.proofs.Common.{◌≡◌, false}
use Rattle.std.specs.List.{list_any}
use Rattle.polis_base.specs.Lists.{upto}
use Rattle.table_use.proofs.Emitted.{is_emitting}
use Rattle.table_use.proofs.emitting.is_emitted.Given as goal

-- none of the rows before this one emits it
abbrev pub invariant-loop-r : goal.invariant-loop-r
invariant-loop-r l = list_any (is_emitting l.machine l.y) (upto l.r) ≡ false
