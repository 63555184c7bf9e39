use Rattle.std.proofs.Common.{◌≡◌, drop}
use Rattle.std.specs.Prelude.{max}
use Rattle.char_function.specs.Orders.{reach}
use Rattle.char_function.proofs.first.reach.Given as goal

abbrev pub invariant-loop-v : goal.invariant-loop-v
invariant-loop-v l = reach l.support ≡ max l.most (reach (drop l.v-index l.support))
