use Rattle.std.proofs.Common.{◌++◌, ◌∷◌, [], length}
use Rattle.std.proofs.lemmas.Result.{err_from_is_err_and}
use Rattle.task_image.proofs.Writes.{put_next, sized_stops, sized_done}
use Rattle.task_image.proofs.encoding.put_sizes.Goals as goal

pub returns-in_err-put-2 : goal.returns-in_err-put-2
returns-in_err-put-2 c =
    let p = err_from_is_err_and c.from_residual-in_err-put-2.result
    c.from_residual-in_err-put-2.ensures.1 in
    rw (p.1, p.2) (sized_stops c.in_err-put-2.field-0.0 c.args.out.now c.args.sizes.now c.loop-v.v
    c.get.result.now c.loop-v.out c.put-in-loop-v.new.out _ c.get.ensures c.loop-v.invariant
    c.in_err-put-2.ensures)

pub loop-v-preserved : goal.loop-v-preserved
loop-v-preserved c =
    put_next (λ b. b ∷ []) (c.args.out.now ++ length c.args.sizes.now ∷ []) c.args.sizes.now
    c.loop-v.v c.get.result.now c.loop-v.out c.put-in-loop-v.new.out c.get.ensures
    c.loop-v.invariant
    c.in_ok-put-2.ensures

pub returns : goal.returns
returns c =
    sized_done c.args.out.now c.args.sizes.now c.loop-v.v c.loop-v.out
    (rw c.len-v-end.ensures.len at c.loop-v-test.false) c.loop-v.invariant
