use Rattle.std.proofs.lemmas.Result.{err_from_is_err_and}
use Rattle.task_image.specs.inner.Reading.{machine_at}
use Rattle.task_image.proofs.EachAt.{goes_on, ends, is_done}
use Rattle.task_image.proofs.decoding.each_machine.Goals as goal

pub returns-in_err-machine : goal.returns-in_err-machine
returns-in_err-machine c =
    let p = err_from_is_err_and c.from_residual.result c.from_residual.ensures.1 in
    rw (p.1, p.2) (ends (λ k. machine_at) c.in_err-machine.field-0.0 c.loop.image c.args.count
    c.loop.counter c.loop.rest.now
    _ c.loop-test.true c.in_err-machine.ensures c.loop.invariant)

pub loop-preserved : goal.loop-preserved
loop-preserved c =
    rw c.in_ok-push.ensures.ok (goes_on (λ k. machine_at) c.loop.image c.args.count c.loop.counter
    c.loop.rest.now
    c.in_ok-machine.machine c.in_ok-machine.after.now _ c.loop-test.true c.in_ok-machine.ensures
    c.loop.invariant)

pub returns : goal.returns
returns c =
    is_done (λ k. machine_at) c.loop.image c.args.count c.loop.counter c.loop.rest.now _
    c.loop-test.false c.loop.invariant
