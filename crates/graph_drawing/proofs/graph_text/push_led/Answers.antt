use Rattle.std.proofs.Common.{ℕ, ◌==◌}
use Rattle.std.proofs.lemmas.Bool.{eq-eqb, ne_eqb}
use Rattle.graph_drawing.specs.Words.{code_word}
use Rattle.graph_drawing.proofs.WordsFrom.{one_word, no_word}
use Rattle.graph_drawing.proofs.graph_text.push_led.Goals as goal

pub returns-then-get-child-clause-words : goal.returns-then-get-child-clause-words
returns-then-get-child-clause-words c = λ whole is.
    no_word (code_word c.args.net.now c.args.machine.now c.args.var)
    (λ (kid : ℕ). kid == c.args.child) c.args.kids.now c.args.k c.args.code c.get.result.now
    c.args.into.now whole is c.get.ensures
    (ne_eqb c.get.result.now c.args.child c.if-get-child.true)

pub returns-clause-words : goal.returns-clause-words
returns-clause-words c = λ whole is.
    one_word (code_word c.args.net.now c.args.machine.now c.args.var)
    (λ (kid : ℕ). kid == c.args.child) c.args.kids.now c.args.k c.args.code c.get.result.now
    c.args.into.now c.push_word.new.into whole is c.get.ensures
    (eq-eqb c.get.result.now c.args.child c.if-get-child.false) c.in_ok-push_word.ensures
