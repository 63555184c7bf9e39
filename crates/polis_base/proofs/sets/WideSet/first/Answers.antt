use Rattle.std.proofs.Common.{◌≡◌, ◌==◌, ◌||◌, ◌∙◌, nat_lt, ap, arith, sym}
use Rattle.std.proofs.lemmas.Bool.{le-ltb}
use Rattle.polis_base.proofs.WideSets.{below_next, members_below}
use Rattle.polis_base.proofs.sets.WideSet.first.Goals as goal

pub loop-k-init : goal.loop-k-init
loop-k-init c = λ j. c.empty-set.ensures j ∙ sym (le-ltb j 0 (omega arith))

pub loop-k-preserved : goal.loop-k-preserved
loop-k-preserved c = λ j.
    c.insert.ensures j ∙ ap (λ b. j == c.loop-k.k || b) (c.loop-k.invariant j)
    ∙ below_next j c.loop-k.k

pub returns-clause-each : goal.returns-clause-each
returns-clause-each c =
    let past = c.loop-k-test.false in
    let end = c.loop-k.auto in
    let done : c.loop-k.k ≡ c.args.count = omega arith in
    λ j. c.loop-k.invariant j ∙ ap (nat_lt j) done

pub returns-clause-members : goal.returns-clause-members
returns-clause-members c =
    let past = c.loop-k-test.false in
    let end = c.loop-k.auto in
    let done : c.loop-k.k ≡ c.args.count = omega arith in
    members_below c.loop-k.set c.args.count c.requires
    (λ j. c.loop-k.invariant j ∙ ap (nat_lt j) done)
