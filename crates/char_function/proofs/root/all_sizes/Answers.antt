use Rattle.std.proofs.Common.{◌∙◌, ◌++◌, ◌∷◌, [], ℕ, List, take, sym, ap, arith}
use Rattle.std.proofs.lemmas.List.{take_more, append_assoc}
use Rattle.decision_diagram.proofs.Fits.{size_some, size_few}
use Rattle.decision_diagram.proofs.ListItems.{read}
use Rattle.char_function.proofs.root.all_sizes.Goals as goal

pub push-requires-clause-some : goal.push-requires-clause-some
push-requires-clause-some c =
    let e = read c.args.m.now.vars c.loop-v.v c.get.result.now 0 c.get.ensures in
    let h = size_some c.args.m.now.vars c.len-v-end.ensures.sizes c.loop-v.v
    (let a = c.loop-v-test.true in let b = c.loop-v.auto.v-end in
    let d = c.len-v-end.ensures.len in omega arith) in
    omega arith

pub push-requires-clause-few : goal.push-requires-clause-few
push-requires-clause-few c =
    let e = read c.args.m.now.vars c.loop-v.v c.get.result.now 0 c.get.ensures in
    let h = size_few c.args.m.now.vars c.len-v-end.ensures.sizes c.loop-v.v
    (let a = c.loop-v-test.true in let b = c.loop-v.auto.v-end in
    let d = c.len-v-end.ensures.len in omega arith) in
    omega arith

pub loop-v-preserved : goal.loop-v-preserved
loop-v-preserved c =
    let xs = c.args.m.now.vars in
    let v = c.loop-v.v in
    let e = read xs v c.get.result.now 0 c.get.ensures in
    c.in_ok-push.ensures.ok
    ∙ ap (λ (ys : List ℕ). ys ++ c.get.result.now ∷ []) c.loop-v.invariant
    ∙ ap (λ (x : ℕ). take v xs ++ x ∷ []) (sym e)
    ∙ sym (take_more xs v 0 (let a = c.loop-v-test.true in let b = c.loop-v.auto.v-end in
    let d = c.len-v-end.ensures.len in omega arith))

pub push-requires-in-loop-y-clause-some : goal.push-requires-in-loop-y-clause-some
push-requires-in-loop-y-clause-some c =
    let e = read c.args.m.now.results c.loop-y.y c.get-in-loop-y.result.now 0
    c.get-in-loop-y.ensures in
    let h = size_some c.args.m.now.results c.len-y-end.ensures.sizes c.loop-y.y
    (let a = c.loop-y-test.true in let b = c.loop-y.auto.y-end in
    let d = c.len-y-end.ensures.len in omega arith) in
    omega arith

pub push-requires-in-loop-y-clause-few : goal.push-requires-in-loop-y-clause-few
push-requires-in-loop-y-clause-few c =
    let e = read c.args.m.now.results c.loop-y.y c.get-in-loop-y.result.now 0
    c.get-in-loop-y.ensures in
    let h = size_few c.args.m.now.results c.len-y-end.ensures.sizes c.loop-y.y
    (let a = c.loop-y-test.true in let b = c.loop-y.auto.y-end in
    let d = c.len-y-end.ensures.len in omega arith) in
    omega arith

pub loop-y-preserved : goal.loop-y-preserved
loop-y-preserved c =
    let xs = c.args.m.now.results in
    let y = c.loop-y.y in
    let e = read xs y c.get-in-loop-y.result.now 0 c.get-in-loop-y.ensures in
    c.in_ok-push-2.ensures.ok
    ∙ ap (λ (ys : List ℕ). ys ++ c.get-in-loop-y.result.now ∷ []) c.loop-y.invariant
    ∙ append_assoc c.args.m.now.vars (take y xs) (c.get-in-loop-y.result.now ∷ [])
    ∙ ap (λ (ys : List ℕ). c.args.m.now.vars ++ ys)
    (ap (λ (x : ℕ). take y xs ++ x ∷ []) (sym e)
    ∙ sym (take_more xs y 0 (let a = c.loop-y-test.true in let b = c.loop-y.auto.y-end in
    let d = c.len-y-end.ensures.len in omega arith)))
