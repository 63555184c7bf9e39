use Rattle.std.proofs.Common.{◌≡◌, ℕ, arith, subst}
use Rattle.determinism.specs.inner.Pairs.{results_end, IsBest}
use Rattle.determinism.proofs.conflict.any_difference.Goals as goal

pub returns-clause-best : goal.returns-clause-best
returns-clause-best c =
    let count = c.result_count-y-end.ensures.count in
    let over = c.loop-y-test.false in
    let within = c.loop-y.auto.y-end in
    let all : c.loop-y.y ≡ results_end c.args.pair.now = omega arith in
    subst (λ (y : ℕ). IsBest c.args.pair.now y c.loop-y.found c.loop-y.best.codes) all
    c.loop-y.invariant.best
