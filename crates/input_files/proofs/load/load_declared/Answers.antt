use Rattle.std.proofs.Common.{inl}
use Rattle.polis_base.specs.declared.limits.TheConstants.{TEXT_MAX}
use Rattle.input_files.specs.Inputs.{LoadFails, NetFails}
use Rattle.input_files.specs.Details.{explains_in}
use Rattle.input_files.proofs.Holds.{one_net, declared_held}
use Rattle.input_files.proofs.FileFails.{file_fails}
use Rattle.input_files.proofs.Refused.{left_read}
use Rattle.input_files.proofs.load.load_declared.Goals as goal

pub returns-in-Ok-declared_network_in-clause-held : goal.returns-in-Ok-declared_network_in-clause-held
returns-in-Ok-declared_network_in-clause-held g c =
    declared_held (g.H.Host.files c.args.host.now) c.args.name.now c.in-Ok.text
    c.in-Ok-declared_network_in.declared.raw c.in-Ok-declared_network_in.declared.net
    c.in-Ok.ensures.held (rw c.as_slice.ensures at c.in-Ok-declared_network_in.ensures.ok)

pub returns-in-Ok-declared_network_in-clause-one : goal.returns-in-Ok-declared_network_in-clause-one
returns-in-Ok-declared_network_in-clause-one g c =
    one_net (g.H.Host.files c.args.host.now) c.args.name.now c.in-Ok.text
    c.in-Ok-declared_network_in.declared.net
    c.in-Ok.ensures.held (rw c.as_slice.ensures at c.in-Ok-declared_network_in.ensures.one)

pub returns-in-Err-clause-failed : goal.returns-in-Err-clause-failed
returns-in-Err-clause-failed g c =
    let name = c.args.name.now in
    file_fails name (g.H.Host.files c.args.host.now) (λ files. LoadFails files TEXT_MAX name)
    (λ files. NetFails files name) (explains_in c.args.detail TEXT_MAX) c.in-Err.failure
    (λ files cause h. inl h) c.in-Err.ensures.failed

pub refuse_net-requires-clause-fault : goal.refuse_net-requires-clause-fault
refuse_net-requires-clause-fault g c =
    rw (c.in-Err-Cause.field-0-is, c.as_slice.ensures) at c.in-Err-Cause.ensures.failed

pub refuse_net-requires-clause-refused : goal.refuse_net-requires-clause-refused
refuse_net-requires-clause-refused g c =
    rw c.in-Err-Cause.field-0-is at c.in-Err-Cause.ensures.refused

pub returns-in-Err-Cause-clause-failed : goal.returns-in-Err-Cause-clause-failed
returns-in-Err-Cause-clause-failed g c =
    c.refuse_net.ensures.failed (g.H.Host.files c.args.host.now) c.in-Ok.ensures.held

pub returns-in-Err-Cause-clause-left : goal.returns-in-Err-Cause-clause-left
returns-in-Err-Cause-clause-left g c =
    left_read c.refuse_net.result c.refuse_net.ensures.read c.in-Ok.ensures.left
