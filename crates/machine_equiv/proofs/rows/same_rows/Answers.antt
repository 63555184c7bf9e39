use Rattle.std.proofs.Common.{arith}
use Rattle.polis_base.proofs.AgreeBelow.{same_lists}
use Rattle.machine_equiv.proofs.rows.same_rows.Goals as goal

pub returns : goal.returns
returns c = λ held. same_lists c.args.a.now c.args.b.now
    (let x = c.len.ensures in let y = c.len-2.ensures in let z = c.if-len.false in omega arith)
    (λ k x y low. c.loop-r.invariant k x y (let n = c.len-r-end.ensures in
    let end = c.loop-r-test.false in omega arith))
