use Rattle.std.proofs.Common.{◌≡◌, ◌∙◌, ⊎_elim, ◌+◌, ◌-◌, [], ℕ, nat_lt, List, length, get_or, sym, ap, refl, arith}
use Rattle.std.specs.List.{list_all}
use Rattle.std.proofs.lemmas.Bool.{cases_lt, true≢false}
use Rattle.domains.specs.Orders.{place}
use Rattle.transition_table.specs.Computed.{all_supports}
use Rattle.char_function.specs.inner.Orders.{stands_after}
use Rattle.decision_diagram.proofs.ListItems.{read}
use Rattle.char_function.proofs.FirstOrder.{of_machine, vars_long, allowed_from, allowed_after}
use Rattle.char_function.proofs.allowed.is_allowed.Goals as goal

pub overflow_sub-vars : goal.overflow_sub-vars
overflow_sub-vars c =
    let fit = of_machine c.args.s.now c.args.order.now c.requires in
    let a = fit.fewer in
    let b = c.len.ensures.len in
    let d = c.len-2.ensures in
    omega arith

pub overflow_cast-vars : goal.overflow_cast-vars
overflow_cast-vars c =
    let fit = of_machine c.args.s.now c.args.order.now c.requires in
    let few = fit.few in
    let a = fit.fewer in
    let b = c.len.ensures.len in
    let d = c.len-2.ensures in
    let e = c.len-y-end.ensures in
    let f = c.loop-y-test.true in
    let g = c.loop-y.auto.y-end in
    omega arith

pub stand_before-requires-clause-item : goal.stand_before-requires-clause-item
stand_before-requires-clause-item c =
    let fit = of_machine c.args.s.now c.args.order.now c.requires in
    let a = fit.fewer in
    let b = c.len.ensures.len in
    let d = c.len-2.ensures in
    let e = c.len-y-end.ensures in
    let f = c.loop-y-test.true in
    let g = c.loop-y.auto.y-end in
    omega arith

pub stand_before-requires-clause-support : goal.stand_before-requires-clause-support
stand_before-requires-clause-support c =
    let fit = of_machine c.args.s.now c.args.order.now c.requires in
    let is : c.as_slice.result.now ≡ get_or c.args.s.now c.loop-y.y [] =
    c.as_slice.ensures ∙ sym (read c.args.s.now c.loop-y.y c.get.result.now [] c.get.ensures) in
    ap (list_all (λ v. nat_lt v (length c.args.order.now))) is
    ∙ fit.low c.loop-y.y (let e = c.len-y-end.ensures in let f = c.loop-y-test.true in
    let g = c.loop-y.auto.y-end in omega arith)

pub returns-then-not-stand_before : goal.returns-then-not-stand_before
returns-then-not-stand_before c m sure is long =
    let s = c.args.s.now in
    let order = c.args.order.now in
    let y = c.loop-y.y in
    let vars : c.len.result - c.len-2.result ≡ length m.vars = let e = vars_long m order long in
    let b = c.len.ensures.len in let d = c.len-2.ensures in
    let f = ap (λ (xs : List (List ℕ)). length xs) is in omega arith in
    let here : c.as_slice.result.now ≡ get_or s y [] =
    c.as_slice.ensures ∙ sym (read s y c.get.result.now [] c.get.ensures) in (
      λ wrong. absurd (true≢false (sym wrong)),
      λ allowed.
          let all = allowed_after c.laws_of_computing.ensures.support_by_test m sure order allowed y
          (let e = c.len-y-end.ensures in let f = c.loop-y-test.true in
          let g = c.loop-y.auto.y-end in let h = ap (λ (xs : List (List ℕ)). length xs) is in
          omega arith) in
          let same : stands_after (length m.vars) (all_supports m) order y ≡ c.stand_before.result =
          ap (λ (sup : List (List ℕ)). stands_after (length m.vars) sup order y) (sym is)
          ∙ ap (λ (n : ℕ). stands_after n s order y) (sym vars)
          ∙ ap (list_all (λ v. nat_lt (place order v)
          (place order (c.len.result - c.len-2.result + y)))) (sym here)
          ∙ sym c.stand_before.ensures in
          sym c.if-not-stand_before.true ∙ sym same ∙ all,
    )

pub loop-y-preserved : goal.loop-y-preserved
loop-y-preserved c k low =
    let s = c.args.s.now in
    let order = c.args.order.now in
    let y = c.loop-y.y in
    let here : c.as_slice.result.now ≡ get_or s y [] =
    c.as_slice.ensures ∙ sym (read s y c.get.result.now [] c.get.ensures) in
    ⊎_elim
    (λ less. c.loop-y.invariant k less)
    (λ more.
    let e : k ≡ y = omega arith in
    ap (stands_after (c.len.result - c.len-2.result) s order) e
    ∙ ap (list_all (λ v. nat_lt (place order v) (place order (c.len.result - c.len-2.result + y))))
    (sym here)
    ∙ sym c.stand_before.ensures
    ∙ c.if-not-stand_before.false)
    (cases_lt k y)

pub returns : goal.returns
returns c m sure is long =
    let s = c.args.s.now in
    let order = c.args.order.now in
    let vars : c.len.result - c.len-2.result ≡ length m.vars = let e = vars_long m order long in
    let b = c.len.ensures.len in let d = c.len-2.ensures in
    let f = ap (λ (xs : List (List ℕ)). length xs) is in omega arith in (
      λ on.
          allowed_from c.laws_of_computing.ensures.support_by_test m sure order
          c.len.ensures.permutation long (λ k low.
          ap (λ (sup : List (List ℕ)). stands_after (length m.vars) sup order k) (sym is)
          ∙ ap (λ (n : ℕ). stands_after n s order k) (sym vars)
          ∙ c.loop-y.invariant k (let e = c.len-y-end.ensures in let f = c.loop-y-test.false in
          let g = c.loop-y.auto.y-end in let h = ap (λ (xs : List (List ℕ)). length xs) is in
          omega arith)),
      λ allowed. refl,
    )
