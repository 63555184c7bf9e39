use Rattle.std.proofs.Common.{◌≡◌, map}
use Rattle.polis_base.specs.Lists.{upto}
use Rattle.table_use.specs.Use.{is_unused}
use Rattle.table_use.proofs.memo.unused_ones.Given as goal

-- those before this one
abbrev pub invariant-loop-i : goal.invariant-loop-i
invariant-loop-i l = l.each ≡ map (λ i. is_unused l.lookup.machine.now i l.codes) (upto l.i)
