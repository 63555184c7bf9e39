use Rattle.std.proofs.Common.{◌≡◌, ◌∙◌, ⊎_elim, ◌+◌, eqb, take, get_or, arith, sym, ap, refl}
use Rattle.std.proofs.lemmas.Bool.{or_cases, eqb-true, eq-eqb}
use Rattle.std.proofs.lemmas.List.Folds.{list_any_more, list_any_at}
use Rattle.domains.specs.Orders.{place}
use Rattle.decision_diagram.specs.Sets.{stands}
use Rattle.outcome_table.proofs.Ends.{max_over, max_within}
use Rattle.order_sift.proofs.places.place_after.Goals as goal

pub loop-v-preserved : goal.loop-v-preserved
loop-v-preserved c =
    let xs = c.args.support.now in
    let i = c.loop-v.v-index in
    let low = c.loop-v-test.true in
    let p = c.place_of.ensures.place in
    let w = c.place_of.ensures.within in
    let is = c.max-after.ensures in
    let over = max_over c.loop-v.after (c.place_of.result + 1) in
    let few = c.requires.few in
    let inv = c.loop-v.invariant in
    let bound = inv.bound in
    record {
      after = λ v on.
          ⊎_elim
          (λ before. let h = inv.after v before in omega arith)
          (λ here.
          let e : get_or xs i 0 ≡ v = eqb-true (get_or xs i 0) v here in
          let f : place c.args.order.now (get_or xs i 0) ≡ place c.args.order.now v =
          ap (place c.args.order.now) e in
          omega arith)
          (or_cases (stands (take i xs) v) (eqb (get_or xs i 0) v)
          (sym (list_any_more (λ k. eqb k v) xs i 0 low) ∙ on));
      least = λ k each.
          let a = inv.least k each in
          let b = each (get_or xs i 0)
          (list_any_at (λ k. eqb k (get_or xs i 0)) xs i 0 low
          (eq-eqb (get_or xs i 0) (get_or xs i 0) refl)) in
          let o = max_within c.loop-v.after (c.place_of.result + 1) k a (omega arith) in
          omega arith;
      bound = let o = max_within c.loop-v.after (c.place_of.result + 1) 1000 bound (omega arith) in
          omega arith;
    }
