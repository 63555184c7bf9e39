use Rattle.std.proofs.lemmas.Result.{err_from_is_err_and}
use Rattle.task_image.specs.inner.Reading.{target_at}
use Rattle.task_image.proofs.EachAt.{goes_on, ends, is_done}
use Rattle.task_image.proofs.decoding.each_target.Goals as goal

pub returns-in_err-target : goal.returns-in_err-target
returns-in_err-target c =
    let p = err_from_is_err_and c.from_residual-in_err-target.result
    c.from_residual-in_err-target.ensures.1 in
    rw (p.1, p.2) (ends (λ j. target_at c.args.count c.args.k) c.in_err-target.field-0.0
    c.loop.targets c.args.size c.loop.counter c.loop.rest.now
    _ c.loop-test.true c.in_err-target.ensures c.loop.invariant)

pub loop-preserved : goal.loop-preserved
loop-preserved c =
    rw (c.in_ok-push.ensures.ok, c.from-in-loop.ensures)
    (goes_on (λ j. target_at c.args.count c.args.k) c.loop.targets c.args.size c.loop.counter
    c.loop.rest.now
    c.in_ok-target.target c.in_ok-target.after.now _ c.loop-test.true c.in_ok-target.ensures
    c.loop.invariant)

pub returns : goal.returns
returns c =
    is_done (λ j. target_at c.args.count c.args.k) c.loop.targets c.args.size c.loop.counter
    c.loop.rest.now _ c.loop-test.false c.loop.invariant
