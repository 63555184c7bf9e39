use Rattle.std.proofs.Common.{◌==◌, ◌∙◌, ap, sym}
use Rattle.polis_base.proofs.SmallSets.{with_same, with_others, without_same, without_others}
use Rattle.polis_base.proofs.sets.SmallSet.marked.Goals as goal

pub returns-then-is-clause-same : goal.returns-then-is-clause-same
returns-then-is-clause-same c =
    ap (λ b. b == 1) (with_same c.with.result c.args.self c.args.k c.with.ensures)
    ∙ sym c.if-is.true

pub returns-then-is-clause-others : goal.returns-then-is-clause-others
returns-then-is-clause-others c =
    with_others c.with.result c.args.self c.args.k c.with.ensures

pub returns-else-is-clause-same : goal.returns-else-is-clause-same
returns-else-is-clause-same c =
    ap (λ b. b == 1) (without_same c.without.result c.args.self c.args.k c.without.ensures)
    ∙ sym c.if-is.false

pub returns-else-is-clause-others : goal.returns-else-is-clause-others
returns-else-is-clause-others c =
    without_others c.without.result c.args.self c.args.k c.without.ensures
