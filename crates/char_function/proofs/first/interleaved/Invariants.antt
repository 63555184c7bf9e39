use Rattle.std.proofs.Common.{◌≡◌, ◌+◌, ◌++◌, ◌∷◌, flat_map}
use Rattle.polis_base.specs.Lists.{upto}
use Rattle.char_function.specs.Orders.{results_after}
use Rattle.char_function.proofs.first.interleaved.Given as goal

abbrev pub invariant-loop-v : goal.invariant-loop-v
invariant-loop-v l = l.list ≡ results_after l.vars l.supports 0
    ++ flat_map (λ v. v ∷ results_after l.vars l.supports (v + 1)) (upto l.v)
