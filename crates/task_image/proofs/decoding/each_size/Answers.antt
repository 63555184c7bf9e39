use Rattle.std.proofs.lemmas.Result.{err_from_is_err_and}
use Rattle.task_image.specs.inner.FieldReaders.{byte_at, within}
use Rattle.task_image.proofs.EachAt.{goes_on, ends, is_done}
use Rattle.task_image.proofs.decoding.each_size.Goals as goal

pub returns-in_err-size : goal.returns-in_err-size
returns-in_err-size c =
    let p = err_from_is_err_and c.from_residual.result c.from_residual.ensures.1 in
    rw (p.1, p.2) (ends (λ k. byte_at (within 1 33)) c.in_err-size.field-0.0 c.loop.sizes
    c.args.count c.loop.counter c.loop.rest.now
    _ c.loop-test.true c.in_err-size.ensures c.loop.invariant)

pub loop-preserved : goal.loop-preserved
loop-preserved c =
    rw c.in_ok-push.ensures.ok (goes_on (λ k. byte_at (within 1 33)) c.loop.sizes c.args.count
    c.loop.counter c.loop.rest.now
    c.in_ok-size.size c.in_ok-size.after.now _ c.loop-test.true c.in_ok-size.ensures
    c.loop.invariant)

pub returns : goal.returns
returns c =
    is_done (λ k. byte_at (within 1 33)) c.loop.sizes c.args.count c.loop.counter c.loop.rest.now _
    c.loop-test.false c.loop.invariant
