use Rattle.std.proofs.Common.{◌≡◌, ℕ, suc, ◌+◌, drop, ap, sym, subst, ◌∙◌, arith}
use Rattle.std.specs.Prelude.{Some}
use Rattle.domains.specs.Names.{is_same}
use Rattle.task_image.proofs.IsWalk.{same_next}
use Rattle.task_image.proofs.verifying.same_sizes.Goals as goal

pub loop-v-preserved : goal.loop-v-preserved
loop-v-preserved c =
    let one = c.args.one.now in
    let other = c.args.other.now in
    let v = c.loop-v.v in
    let e = same_next one other v c.get.result.now c.get.ensures
    (c.get-in-loop-v.ensures ∙ ap Some (sym c.if-get.false)) in
    let s : suc v ≡ v + 1 = omega arith in
    subst (λ (n : ℕ). is_same (drop n one) (drop n other) ≡ is_same one other) s
    (sym e ∙ c.loop-v.invariant)
