use Rattle.std.proofs.Common.{◌≡◌, ◌+◌, ◌-◌, ℕ, refl, arith, length, subst, sym}
use Rattle.cost_bound.proofs.ScoreSteps.{Scored, scored_more, ahead_small}
use Rattle.std.proofs.lemmas.Option.{slice_get_within}
use Rattle.cost_bound.proofs.TailCosts.{may_go_on}
use Rattle.cost_bound.proofs.score.scores_of.Goals as goal
use Rattle.cost_bound.specs.inner.Scores.{MayGoOn}

pub ahead-ahead-requires-clause-goes_on : goal.ahead-ahead-requires-clause-goes_on
ahead-ahead-requires-clause-goes_on c =
    subst (λ (n : ℕ). MayGoOn n (c.loop-at.at - 1) c.get-instr.result.now)
    (sym c.loop-at.invariant.long)
    (may_go_on c.args.code.now (c.loop-at.at - 1) c.get-instr.result.now
    c.len-count.ensures.code c.get-instr.ensures)

pub overflow_add-score : goal.overflow_add-score
overflow_add-score c =
    let some = c.loop-at-test.true in
    let low = slice_get_within c.args.code.now (c.loop-at.at - 1) c.get-instr.result.now
    c.get-instr.ensures in
    let few = ahead_small c.args.aim c.args.weights.now c.loop-at.scores
    (length c.args.code.now) (c.loop-at.at - 1) c.get-instr.result.now c.ahead-ahead.result low
    (may_go_on c.args.code.now (c.loop-at.at - 1) c.get-instr.result.now
    c.len-count.ensures.code c.get-instr.ensures)
    (c.requires (c.loop-at.at - 1) c.get-instr.result.now c.get-instr.ensures)
    c.ahead-ahead.ensures
    (λ p late within. c.loop-at.invariant.small p (omega arith) within) in
    let len = c.len-count.ensures.len in
    let short = c.len-count.ensures.code.few in
    let own = c.of.ensures.few in
    omega (arith, few.0)

pub loop-at-preserved : goal.loop-at-preserved
loop-at-preserved c =
    let some = c.loop-at-test.true in
    let one : c.loop-at.at ≡ c.loop-at.at - 1 + 1 = omega arith in
    scored_more c.args.aim c.args.costs.now c.args.weights.now c.args.code.now c.loop-at.scores
    c.set.new.self (c.loop-at.at - 1) c.get-instr.result.now c.ahead-ahead.result
    record { cost = c.of.result + c.ahead-ahead.result.cost; number = c.ahead-ahead.result.number }
    c.len-count.ensures.code c.get-instr.ensures
    (c.requires (c.loop-at.at - 1) c.get-instr.result.now c.get-instr.ensures)
    (subst (λ (n : ℕ). Scored c.args.aim c.args.costs.now c.args.weights.now c.args.code.now
    c.loop-at.scores n) one c.loop-at.invariant)
    c.ahead-ahead.ensures (omega (arith, c.of.ensures.cost)) refl c.set.ensures
