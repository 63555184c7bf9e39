use Rattle.net_rules.proofs.HasMachines.{has_machines}
use Rattle.input_files.proofs.IsNetFault.{fault_from, conflict_fault, fault_refuses}
use Rattle.input_files.proofs.accept.declared_network_in.Goals as goal

pub returns-in-Err-check_machines-clause-failed : goal.returns-in-Err-check_machines-clause-failed
returns-in-Err-check_machines-clause-failed c =
    let declared = c.in-Ok.declared in
    let ok = c.in-Ok.ensures.ok in
    fault_from c.in-Err-check_machines.fault _ _
    (λ cause. conflict_fault c.args.text.now declared.raw declared.net cause ok.0
    (declared.raw, ok.0, ok.1) c.in-Ok.ensures.one) c.in-Err-check_machines.ensures.failed

pub returns-in-Err-clause-refused : goal.returns-in-Err-clause-refused
returns-in-Err-clause-refused c =
    fault_from c.in-Err.fault _ _ (fault_refuses c.args.text.now) c.in-Err.ensures.failed

pub returns-in-Err-check_machines-clause-refused : goal.returns-in-Err-check_machines-clause-refused
returns-in-Err-check_machines-clause-refused c =
    let declared = c.in-Ok.declared in
    let ok = c.in-Ok.ensures.ok in
    fault_from c.in-Err-check_machines.fault _ _
    (λ cause h. fault_refuses c.args.text.now cause
    (conflict_fault c.args.text.now declared.raw declared.net cause ok.0
    (declared.raw, ok.0, ok.1) c.in-Ok.ensures.one h)) c.in-Err-check_machines.ensures.failed

pub returns-in-Ok-check_machines-clause-whole : goal.returns-in-Ok-check_machines-clause-whole
returns-in-Ok-check_machines-clause-whole c =
    let declared = c.in-Ok.declared in
    let ok = c.in-Ok.ensures.ok in
    has_machines c.args.text.now declared.net (declared.raw, ok.0, ok.1)
