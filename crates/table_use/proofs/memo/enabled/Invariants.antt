use Rattle.std.proofs.Common.{◌≡◌}
use Rattle.std.specs.List.{filter}
use Rattle.polis_base.specs.Lists.{upto}
use Rattle.table_use.specs.Use.{enables}
use Rattle.table_use.proofs.memo.enabled.Given as goal

-- those before this one
abbrev pub invariant-loop-r : goal.invariant-loop-r
invariant-loop-r l = l.rows ≡ filter (λ r. enables l.machine r l.s.codes) (upto l.r)
