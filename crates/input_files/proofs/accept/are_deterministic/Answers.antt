use Rattle.std.proofs.Common.{arith}
use Rattle.input_files.proofs.Holds.{before_next, all_before}
use Rattle.input_files.proofs.accept.are_deterministic.Goals as goal

pub loop-m-preserved : goal.loop-m-preserved
loop-m-preserved c =
    before_next c.args.net.now c.loop-m.m c.get.result.now c.loop-m.invariant c.get.ensures
    c.in-Ok.ensures

pub returns-clause-ok : goal.returns-clause-ok
returns-clause-ok c = λ yes.
    all_before c.args.net.now c.loop-m.m c.loop-m.invariant (omega (arith, c.loop-m-test.false))
