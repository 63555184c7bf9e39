use Rattle.std.proofs.Common.{◌≡◌, ◌∙◌, ⊎_elim, ◌+◌, ◌<◌, ℕ, [], List, length, get_or, arith, sym, ap}
use Rattle.std.proofs.lemmas.Bool.{cases_lt, true≢false}
use Rattle.std.proofs.lemmas.Option.{get_or_from_slice_get}
use Rattle.domains.specs.Orders.{place}
use Rattle.decision_diagram.specs.Sets.{stands}
use Rattle.order_sift.proofs.places.place_before.Goals as goal
use Rattle.order_sift.proofs.places.place_before.Goals.{then-has, else-has}

pub loop-y-preserved : goal.loop-y-preserved
loop-y-preserved c =
    let supports = c.args.supports.now in
    let order = c.args.order.now in
    let y = c.loop-y.y in
    let ly : y < length supports = let a = c.loop-y-test.true in let b = c.len-y-end.ensures in
    omega arith in
    let inv = c.loop-y.invariant in
    let within = inv.within in
    let is : get_or supports y [] ≡ c.get.result.now =
    get_or_from_slice_get supports y c.get.result.now [] c.get.ensures in
    let test : c.has.result ≡ stands (get_or supports y []) c.args.var =
    c.has.ensures ∙ ap (λ (xs : List ℕ). stands xs c.args.var) (c.as_slice.ensures ∙ sym is) in
    elim c.if-has.branch [
      | then-has w ↦
          let on = sym test ∙ w.if-has.true in
          let p = w.place_of.ensures.place in
          let b = w.before-is in
          let m = w.min-before.ensures in
          record {
            before = λ z lz is_on.
                ⊎_elim
                (λ low. let h = inv.before z low is_on in omega arith)
                (λ high.
                let e : y ≡ z = omega arith in
                let f : place order (c.args.vars + y) ≡ place order (c.args.vars + z) =
                ap (λ k. place order (c.args.vars + k)) e in
                omega arith)
                (cases_lt z y);
            greatest = λ k lk each.
                let g = inv.greatest k lk each in
                let h = each y ly on in
                omega arith;
            within = omega arith;
          }
      | else-has w ↦
          let b = w.before-is in
          record {
            before = λ z lz is_on.
                ⊎_elim
                (λ low. let h = inv.before z low is_on in omega arith)
                (λ high.
                let e : z ≡ y = omega arith in
                absurd (true≢false (sym is_on ∙ ap (λ k. stands (get_or supports k []) c.args.var) e
                ∙ sym test ∙ w.if-has.false)))
                (cases_lt z y);
            greatest = λ k lk each. let g = inv.greatest k lk each in omega arith;
            within = omega arith;
          }
    ]
