use Rattle.std.proofs.Common.{arith}
use Rattle.commands.proofs.IsRan.{ran_by}
use Rattle.commands.proofs.run_result.run_by.Goals as goal

pub carry_on-requires-clause-few : goal.carry_on-requires-clause-few
carry_on-requires-clause-few g c =
    let most = c.in_ok-gathered.ensures.most in
    let a = most.0 in
    let b = most.1 in
    omega (arith, a, b)

pub returns-in-Ok : goal.returns-in-Ok
returns-in-Ok g c =
    ran_by (g.R.Reactor.meaning c.args.r.now) c.args.trace.now c.args.workers c.args.limit
    c.in_ok-gathered.gathered.merged c.in_ok-gathered.gathered.config.journal c.in-Ok.ran
    c.requires.several c.in_ok-gathered.ensures.legal
    c.in_ok-gathered.ensures.most c.in_ok-gathered.ensures.enough
    (rw c.in_ok-gathered.ensures.trace at c.in-Ok.ensures)
