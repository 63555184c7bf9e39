use Rattle.std.proofs.Common.{◌&&◌, ◌||◌, ◌==◌, ◌∙◌, not, length, sym, ap}
use Rattle.std.specs.Int.{bit_at}
use Rattle.std.proofs.lemmas.Bool.{le-leb, lt-leb}
use Rattle.table_use.proofs.marks.kept.Goals as goal

pub returns-then-var-len : goal.returns-then-var-len
returns-then-var-len c = λ code. c.without.ensures code
    ∙ ap (λ b. (b || not (code == 0)) && (bit_at c.args.codes code == 1))
    (sym (lt-leb (length c.args.machine.now.inputs) c.args.var
    (rw c.len.ensures at c.if-var-len.true)))

pub returns : goal.returns
returns c = λ code.
    sym (ap (λ b. (b || not (code == 0)) && (bit_at c.args.codes code == 1))
    (le-leb (length c.args.machine.now.inputs) c.args.var
    (rw c.len.ensures at c.if-var-len.false)))
