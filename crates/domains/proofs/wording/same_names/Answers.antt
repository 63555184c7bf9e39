use Rattle.std.proofs.Common.{refl, arith}
use Rattle.polis_base.proofs.AgreeBelow.{same_lists}
use Rattle.domains.proofs.wording.same_names.Goals as goal

pub returns : goal.returns
returns c = (
  λ held. same_lists c.args.a.now c.args.b.now
      (let x = c.len.ensures.len in let y = c.len-2.ensures.len in let z = c.if-len.false in
      omega arith)
      (λ k x y low. c.loop-v.invariant k x y (let n = c.len-v-end.ensures.len in
      let end = c.loop-v-test.false in omega arith)),
  λ same. refl,
)
