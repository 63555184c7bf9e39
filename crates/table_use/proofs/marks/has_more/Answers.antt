use Rattle.std.proofs.Common.{◌<◌, ◌∙◌, ℕ, not, length, true≢false, sym, ap, subst}
use Rattle.std.proofs.lemmas.Bool.{eq-eqb}
use Rattle.table_use.proofs.BoxCounts.{row_low, set_at, set_low, sets_long}
use Rattle.table_use.proofs.Marked.{has_other}
use Rattle.table_use.proofs.marks.has_more.Goals as goal

pub of_row-one-requires : goal.of_row-one-requires
of_row-one-requires c =
    row_low c.args.machine.now c.args.codes.now c.from.result c.args.r c.requires.codes
    c.from.ensures c.requires.row

pub of_row-other-requires : goal.of_row-other-requires
of_row-other-requires c =
    row_low c.args.machine.now c.args.codes.now c.from-2.result c.args.k c.requires.codes
    c.from-2.ensures c.requires.other

pub get-requires-in-loop-var : goal.get-requires-in-loop-var
get-requires-in-loop-var c =
    let m = c.args.machine.now in
    let long = sets_long m c.args.codes.now c.from.result c.args.r c.of_row-one.result.now
    c.requires.codes c.from.ensures c.requires.row c.of_row-one.ensures in
    set_low m c.args.codes.now c.from-2.result c.args.k c.loop-var.var c.of_row-other.result.now
    c.requires.codes c.from-2.ensures c.requires.other c.of_row-other.ensures
    (subst (λ (n : ℕ). c.loop-var.var < n) (c.len-var-end.ensures ∙ long) c.loop-var-test.true)

pub returns-then-ne : goal.returns-then-ne
returns-then-ne c = λ h.
    let m = c.args.machine.now in
    let var = c.loop-var.var in
    let long = sets_long m c.args.codes.now c.from.result c.args.r c.of_row-one.result.now
    c.requires.codes c.from.ensures c.requires.row c.of_row-one.ensures in
    let within : var < length m.vars =
    subst (λ (n : ℕ). var < n) (c.len-var-end.ensures ∙ long) c.loop-var-test.true in
    has_other m c.args.r c.args.k var c.get.result.now c.get-in-loop-var.result.now
    c.kept-own.result c.both-common.result within
    (set_at m c.args.codes.now c.from.result c.args.r var c.get.result.now
    c.of_row-one.result.now c.requires.codes c.from.ensures c.requires.row within
    c.of_row-one.ensures c.get.ensures)
    (set_at m c.args.codes.now c.from-2.result c.args.k var c.get-in-loop-var.result.now
    c.of_row-other.result.now c.requires.codes c.from-2.ensures c.requires.other within
    c.of_row-other.ensures c.get-in-loop-var.ensures)
    c.kept-own.ensures c.both-common.ensures
    (λ same. true≢false (sym c.if-ne.true ∙ c.ne.ensures
    ∙ ap not (eq-eqb c.both-common.result c.kept-own.result same)))
