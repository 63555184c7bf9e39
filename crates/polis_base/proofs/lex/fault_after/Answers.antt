use Rattle.std.proofs.Common.{sym, ◌∙◌, ap, drop}
use Rattle.std.specs.Result.{result_err}
use Rattle.polis_base.proofs.TokensFrom.{fault_on, stopped, faulty_on, none_on}
use Rattle.polis_base.proofs.Scans.{never_memory}
use Rattle.polis_base.proofs.lex.fault_after.Goals as goal

pub loop-at-preserved : goal.loop-at-preserved
loop-at-preserved c =
    let h =
    fault_on c.loop-at.at c.in-Ok.width c.args.text.now (sym c.in-Ok.ensures.scan)
    c.loop-at-test.true c.in-Ok.ensures.some in
    c.after_alone-at-in-Ok.ensures.same ∙ (sym h ∙ c.loop-at.invariant)

pub returns-in-Err-clause-fault : goal.returns-in-Err-clause-fault
returns-in-Err-clause-fault c =
    let at = c.loop-at.at in
    let is =
    stopped at c.in-Err.error c.args.text.now (sym c.in-Err.ensures.scan) c.loop-at-test.true in
    ap result_err (sym (faulty_on at c.in-Err.error c.args.text.now is c.loop-at-test.true))
    ∙ c.loop-at.invariant

pub returns-in-Err-clause-no_memory : goal.returns-in-Err-clause-no_memory
returns-in-Err-clause-no_memory c =
    let at = c.loop-at.at in
    let is =
    stopped at c.in-Err.error c.args.text.now (sym c.in-Err.ensures.scan) c.loop-at-test.true in
    never_memory at (drop at c.args.text.now) c.in-Err.error is

pub returns-clause-fault : goal.returns-clause-fault
returns-clause-fault c =
    ap result_err (sym (none_on c.loop-at.at c.args.text.now c.loop-at-test.false))
    ∙ c.loop-at.invariant
