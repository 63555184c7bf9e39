use Rattle.std.proofs.Common.{◌∙◌, sym}
use Rattle.net_names.proofs.NumberIn.{number_all, number_here, number_later, number_none}
use Rattle.net_names.proofs.values.number_of.Goals as goal

pub loop-number-init : goal.loop-number-init
loop-number-init c = number_all c.args.words.now c.args.name

pub returns-then-is_same : goal.returns-then-is_same
returns-then-is_same c =
    sym (number_here c.args.words.now c.args.name c.loop-number.number c.index-words-number.result
    c.loop-number-test.true c.index-words-number.is (sym c.is_same.ensures ∙ c.if-is_same.true))
    ∙ c.loop-number.invariant

pub loop-number-preserved : goal.loop-number-preserved
loop-number-preserved c =
    sym (number_later c.args.words.now c.args.name c.loop-number.number c.index-words-number.result
    c.loop-number-test.true c.index-words-number.is (sym c.is_same.ensures ∙ c.if-is_same.false))
    ∙ c.loop-number.invariant

pub returns : goal.returns
returns c = sym
    (number_none c.args.words.now c.args.name c.loop-number.number c.loop-number-test.false)
    ∙ c.loop-number.invariant
