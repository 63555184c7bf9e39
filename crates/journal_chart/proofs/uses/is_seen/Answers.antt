use Rattle.std.proofs.Common.{length, sym, arith}
use Rattle.journals.specs.Seen.{is_present}
use Rattle.journals.proofs.Upto.{any_found, none_more}
use Rattle.journal_chart.proofs.InputsAlone.{absent, present}
use Rattle.journal_chart.proofs.uses.is_seen.Goals as goal

pub returns-then-get-ne0 : goal.returns-then-get-ne0
returns-then-get-ne0 c =
    let codes = c.args.codes.now in
    let end = c.len-i-end.ensures in
    let test = c.loop-i-test.true in
    sym (any_found (λ i. is_present i codes) (length c.args.machine.now.inputs) c.loop-i.i
    (omega arith) (present codes c.loop-i.i c.get.result.now c.get.ensures c.if-get-ne0.true))

pub loop-i-preserved : goal.loop-i-preserved
loop-i-preserved c =
    let codes = c.args.codes.now in
    none_more (λ i. is_present i codes) c.loop-i.i c.loop-i.invariant
    (absent codes c.loop-i.i c.get.result.now c.get.ensures c.if-get-ne0.false)
