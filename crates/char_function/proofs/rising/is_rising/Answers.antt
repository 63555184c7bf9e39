use Rattle.std.proofs.Common.{◌+◌, ◌<◌, length, subst, sym, arith}
use Rattle.char_function.proofs.Rises.{RisesTo, rises_result, rises_var}
use Rattle.decision_diagram.proofs.ListItems.{read}
use Rattle.char_function.proofs.rising.is_rising.Goals.{then-item-vars+else-item-next, else-item-vars}
use Rattle.char_function.proofs.rising.is_rising.Goals as goal

pub loop-place-preserved : goal.loop-place-preserved
loop-place-preserved c =
    let order = c.args.order.now in
    let vars = c.args.vars in
    let p = c.loop-place.place in
    let next = c.loop-place.next in
    let low : p < length order = let a = c.loop-place-test.true in
    let b = c.len-place-end.ensures.len in omega arith in
    let is = read order p c.get.result.now 0 c.get.ensures in
    let from = c.from-item.ensures in
    elim c.if-item-vars.branch [
      | then-item-vars+else-item-next w ↦ subst (RisesTo vars order (p + 1)) (sym w.next-is)
          (rises_var vars order p next c.loop-place.invariant low
          (let a = w.if-item-next.false in omega arith))
      | else-item-vars w ↦ subst (RisesTo vars order (p + 1)) (sym w.next-is)
          (rises_result vars order p next c.loop-place.invariant low
          (let a = w.if-item-vars.false in omega arith))
    ]
