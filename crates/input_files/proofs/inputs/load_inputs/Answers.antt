use Rattle.polis_base.specs.declared.limits.TheConstants.{TEXT_MAX}
use Rattle.input_files.specs.Details.{explains_in}
use Rattle.input_files.specs.Inputs.{NetFails, TraceFails}
use Rattle.input_files.proofs.InputsFail.{first_named, net_failed, second_named, trace_failed}
use Rattle.input_files.proofs.inputs.load_inputs.Goals as goal

pub returns-in-Err-clause-failed : goal.returns-in-Err-clause-failed
returns-in-Err-clause-failed g c =
    net_failed (g.H.Host.files c.args.host.now) c.args.net_name.now c.args.trace_name.now
    (explains_in c.args.detail TEXT_MAX) c.in-Err.failure c.in-Err.ensures.failed

pub returns-clause-failed : goal.returns-clause-failed
returns-clause-failed g c =
    trace_failed (g.H.Host.files c.args.host.now) c.args.net_name.now c.args.trace_name.now
    c.in-Ok.net (explains_in c.args.detail TEXT_MAX) c.in-Err-load_trace.failure
    c.in-Ok.ensures.held c.in-Ok.ensures.one
    (rw c.in-Ok.ensures.left.files at c.in-Err-load_trace.ensures.failed)

pub returns-in-Err-clause-named : goal.returns-in-Err-clause-named
returns-in-Err-clause-named g c =
    first_named c.args.net_name.now c.args.trace_name.now (g.H.Host.files c.args.host.now)
    (λ files. NetFails files c.args.net_name.now) (explains_in c.args.detail TEXT_MAX)
    c.in-Err.failure c.in-Err.ensures.failed

pub returns-clause-named : goal.returns-clause-named
returns-clause-named g c =
    second_named c.args.net_name.now c.args.trace_name.now _
    (λ files. TraceFails files c.in-Ok.net c.args.trace_name.now)
    (explains_in c.args.detail TEXT_MAX) c.in-Err-load_trace.failure
    c.in-Err-load_trace.ensures.failed
