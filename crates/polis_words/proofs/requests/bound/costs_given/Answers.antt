use Rattle.std.proofs.Common.{sym, ◌∙◌}
use Rattle.polis_words.proofs.AsksBound.{some_four, one_four}
use Rattle.polis_words.proofs.requests.bound.costs_given.Goals as goal

pub returns-then-len-eq6-clause-some : goal.returns-then-len-eq6-clause-some
returns-then-len-eq6-clause-some c =
    some_four c.costs_of.result c.args.words.now (sym c.len-2.ensures ∙ c.if-len-eq6.true)
    c.costs_of.ensures.some

pub returns-then-len-eq6-clause-one : goal.returns-then-len-eq6-clause-one
returns-then-len-eq6-clause-one c =
    one_four c.costs_of.result c.args.words.now
    (sym c.len-2.ensures ∙ c.if-len-eq6.true) c.costs_of.ensures.some
