use Rattle.std.proofs.Common.{◌≡◌, ◌+◌, ◌++◌, ◌==◌, map}
use Rattle.std.specs.Prelude.{filter}
use Rattle.polis_base.specs.Lists.{upto}
use Rattle.char_function.specs.Orders.{reach_at}
use Rattle.char_function.proofs.first.push_results.Given as goal

abbrev pub invariant-loop-y : goal.invariant-loop-y
invariant-loop-y l = l.list ≡ l.fn.list
    ++ map (λ y. l.vars + y) (filter (λ y. reach_at l.supports y == l.k) (upto l.y))
