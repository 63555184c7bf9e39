use Rattle.std.proofs.Common.{length, sym, ◌∙◌, arith}
use Rattle.std.specs.Cmp.Derive.{both_true}
use Rattle.table_use.specs.Use.{can_fire, fires_alone}
use Rattle.journals.proofs.Upto.{any_found, none_more}
use Rattle.journal_chart.proofs.InputsAlone.{not_from}
use Rattle.journal_chart.proofs.uses.is_jammed.Goals as goal

pub returns-then-branch-2 : goal.returns-then-branch-2
returns-then-branch-2 c =
    let m = c.args.machine.now in
    let s = c.args.s.now.codes in
    let end = c.len-i-end.ensures in
    let test = c.loop-i-test.true in
    sym (both_true
    (not_from (can_fire m s) (sym c.in_ok-fires_on.ensures ∙ c.if-branch.false))
    (any_found (fires_alone m s) (length m.inputs) c.loop-i.i (omega arith)
    (sym c.in_ok-fires_alone.ensures ∙ c.if-branch-2.true)))

pub loop-i-preserved : goal.loop-i-preserved
loop-i-preserved c =
    none_more (fires_alone c.args.machine.now c.args.s.now.codes) c.loop-i.i c.loop-i.invariant
    (sym c.in_ok-fires_alone.ensures ∙ c.if-branch-2.false)
