use Rattle.std.proofs.Common.{◌≡◌, ◌∙◌, length, ℕ, List, sym, ap, subst, arith}
use Rattle.std.specs.Prelude.{IfNone, IfSome}
use Rattle.domains.specs.Orders.{IsPermutation}
use Rattle.transition_table.specs.Orders.{Allowed}
use Rattle.char_function.specs.Orders.{interleaved, first_order}
use Rattle.char_function.proofs.FirstOrder.{first_permutation, first_allowed, supports_long}
use Rattle.char_function.proofs.first.first_order.Goals as goal

pub interleaved-requires : goal.interleaved-requires
interleaved-requires c =
    let m = c.args.m.now in
    let a = c.from-vars.ensures in
    let b = c.var_count.ensures.few in
    let d = c.result_count-count.ensures.few in
    let e = c.result_count-count.ensures.count in
    let f = c.var_count.ensures.results in
    let g : length c.args.s.now ≡ length m.results =
    ap (λ (s : List (List ℕ)). length s) c.requires.supports ∙ supports_long m in
    omega arith

pub unreachable-requires : goal.unreachable-requires
unreachable-requires c =
    let m = c.args.m.now in
    let is : c.as_slice.result.now ≡ first_order m =
    c.as_slice.ensures ∙ c.in_ok-list.ensures
    ∙ ap (λ (n : ℕ). interleaved n c.args.s.now) (c.from-vars.ensures ∙ c.var_count.ensures.count)
    ∙ ap (interleaved (length m.vars)) c.requires.supports in
    let none = subst (λ (o : _). IfNone o (¬ IsPermutation c.as_slice.result.now)) c.in-None.is
    c.in_ok-order.ensures.none in
    none (subst IsPermutation (sym is) (first_permutation m))

pub returns-clause-allowed : goal.returns-clause-allowed
returns-clause-allowed c =
    let m = c.args.m.now in
    let is : c.as_slice.result.now ≡ first_order m =
    c.as_slice.ensures ∙ c.in_ok-list.ensures
    ∙ ap (λ (n : ℕ). interleaved n c.args.s.now) (c.from-vars.ensures ∙ c.var_count.ensures.count)
    ∙ ap (interleaved (length m.vars)) c.requires.supports in
    let made = subst (λ (o : _). IfSome o (λ order. order ≡ c.as_slice.result.now)) c.in-Some.is
    c.in_ok-order.ensures.some in
    subst (Allowed m) (sym (made ∙ is))
    (first_allowed c.laws_of_computing.ensures.support_by_test m c.requires.sure)
