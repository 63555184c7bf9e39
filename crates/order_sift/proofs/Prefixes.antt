-- Sets of items that stand before a place.
use Rattle.std.proofs.Common.{◌≡◌, ℕ, zero, suc, ◌+◌, ◌<◌, ◌≤◌, Bool, true, false, ◌||◌, eqb, List, ◌∷◌, length, take, slice_index, refl, ap, sym, ◌∙◌, arith, []}
use Rattle.std.specs.List.{insert}
use Rattle.std.proofs.lemmas.Bool.{false_from_ne_true}
use Rattle.domains.specs.Orders.{place, HavePlaces, OnePlace}
use Rattle.transition_table.specs.declared.machine.Machine.{Machine}
use Rattle.transition_table.specs.Laws.{SupportByTest}
use Rattle.transition_table.specs.Orders.{Allowed}
use Rattle.transition_table.specs.Transitions.{IsDeterministic}
use Rattle.decision_diagram.specs.Sets.{stands}
use Rattle.order_sift.specs.inner.Classes.{IsNextItem}
use Rattle.char_function.proofs.FixedCodes.{stands_at, at_stands}
use Rattle.transition_table.proofs.MachineCounts.{order_length}

swap_or : (a b c : Bool) → (a || (b || c)) ≡ (b || (a || c))
swap_or true true c = refl
swap_or true false c = refl
swap_or false true c = refl
swap_or false false c = refl

-- with an item put among them, before or at the place
pub stands_insert : (rest : List ℕ) (j k x w : ℕ) → j ≤ k → j ≤ length rest
    → stands (take (suc k) (insert rest j x)) w ≡ (eqb x w || stands (take k rest) w)
stands_insert rest zero k x w low fits = refl
stands_insert [] (suc j) k x w low fits = absurd (omega arith)
stands_insert (r ∷ rest) (suc j) zero x w low fits = absurd (omega arith)
stands_insert (r ∷ rest) (suc j) (suc k) x w low fits =
    ap (λ b. eqb r w || b) (stands_insert rest j k x w (omega arith) (omega arith))
    ∙ swap_or (eqb r w) (eqb x w) (stands (take k rest) w)

-- the item at a place of an allowed order is the next one after those before it
pub next_of : (m : Machine) (o : List ℕ) (b : ℕ) → HavePlaces → OnePlace → SupportByTest
    → IsDeterministic m → Allowed m o → b < length o
    → IsNextItem m (stands (take b o)) (slice_index o b)
next_of m o b have one by_test sure allowed low =
    let perm = allowed.permutation in
    let n = order_length m o allowed in
    record {
      free = false_from_ne_true (stands (take b o) (slice_index o b)) (λ on.
          let r = stands_at o b (slice_index o b) on in
          perm.distinct r.0 b r.1 low r.3);
      stands_on = λ y v ly lv is on.
          let support = (by_test m y v sure lv).0 on in
          let less = allowed.after y v ly lv support in
          let there = have o v perm (omega arith) in
          let here : place o (length m.vars + y) ≡ b = ap (place o) (sym is) ∙ one o b perm low in
          at_stands o b (place o v) v (omega arith) there.0 there.1;
      carries = λ y ly lv on.
          let v = slice_index o b in
          let support = (by_test m y v sure lv).0 on in
          let less = allowed.after y v ly lv support in
          let here : place o v ≡ b = one o b perm low in
          false_from_ne_true (stands (take b o) (length m.vars + y)) (λ h.
          let r = stands_at o b (length m.vars + y) h in
          let p : place o (length m.vars + y) ≡ r.0 = ap (place o) (sym r.3) ∙ one o r.0 perm r.2 in
          let l = r.1 in
          let e : place o (length m.vars + y) < b = omega arith in
          omega arith);
    }
