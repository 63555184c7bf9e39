use Rattle.std.proofs.Common.{◌≡◌, map, eqb}
use Rattle.polis_base.specs.Lists.{upto}
use Rattle.table_use.specs.Lint.{amount, emits}
use Rattle.table_use.proofs.emitting.never_emitted.Given as goal

-- those before this one
abbrev pub invariant-loop-y : goal.invariant-loop-y
invariant-loop-y l = l.each ≡ map (λ y. eqb (amount l.machine (emits l.machine y)) 0) (upto l.y)
