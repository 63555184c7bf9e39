use Rattle.std.proofs.Common.{arith}
use Rattle.task_image.proofs.Verifies.{all_fit, tasks_of}
use Rattle.task_image.proofs.verifying.verify.Goals as goal

pub returns-clause-tasks : goal.returns-clause-tasks
returns-clause-tasks c = λ fits.
    let test = c.loop-k-test.false in
    let count = c.max-count.ensures in
    let one = c.len.ensures in
    let other = c.len-2.ensures in
    let f = all_fit c.args.image.now c.args.net.now c.loop-k.k c.loop-k.invariant
    (omega (arith, test, count, one, other)) (omega (arith, test, count, one, other)) in
    tasks_of c.args.image.now c.args.net.now c.requires.image f.0 f.1
