use Rattle.std.proofs.Common.{arith}
use Rattle.transition_table.specs.NetworkFacts.{has_vars}
use Rattle.input_files.proofs.Holds.{before_next, all_before}
use Rattle.input_files.proofs.IsNetFault.{fault_from, first_fault}
use Rattle.input_files.proofs.accept.check_machines.Goals as goal
use Rattle.polis_base.proofs.ListTests.{all_get}

pub check_machine-requires : goal.check_machine-requires
check_machine-requires c =
    let net = c.args.net.now in
    all_get (has_vars net.domains net.events) net.machines c.loop-m.m c.get.result.now
    net.sized_vars c.get.ensures

pub returns-in-Err-clause-failed : goal.returns-in-Err-clause-failed
returns-in-Err-clause-failed c =
    fault_from c.in-Err.fault _ _
    (λ cause. first_fault c.args.raw.now c.args.net.now c.loop-m.m c.get.result.now cause c.get.ensures
    c.loop-m.invariant) c.in-Err.ensures.failed

pub loop-m-preserved : goal.loop-m-preserved
loop-m-preserved c =
    before_next c.args.net.now c.loop-m.m c.get.result.now c.loop-m.invariant c.get.ensures
    c.in-Ok.ensures.ok

pub returns-clause-ok : goal.returns-clause-ok
returns-clause-ok c =
    all_before c.args.net.now c.loop-m.m c.loop-m.invariant (omega (arith, c.loop-m-test.false))
