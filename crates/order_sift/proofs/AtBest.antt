-- Which places of an item are its best.
use Rattle.std.proofs.Common.{◌≡◌, ℕ, ◌+◌, ◌-◌, ◌<◌, ◌≤◌, List, length, slice_index, ap, sym, ◌∙◌, arith, subst}
use Rattle.domains.specs.Orders.{place, OnePlace}
use Rattle.transition_table.specs.declared.machine.Machine.{Machine}
use Rattle.transition_table.specs.Orders.{Allowed}
use Rattle.char_function.specs.Sizes.{Size}
use Rattle.order_sift.specs.Moves.{moved}
use Rattle.order_sift.specs.Turns.{placed, IsAllowedPlace, IsAtBest, IsBetterPlace}
use Rattle.order_sift.specs.inner.Turns.{AreAllowedPlaces, NoneSmaller}

-- the sizes with an item at its allowed places, of which the least stands first at one place
module _ (m : Machine) (order sizes : List ℕ) (item first last best count : ℕ)
    (places : AreAllowedPlaces m order (place order item) first last)
    (long : length sizes + first ≡ last + 1)
    (each : (k : ℕ) → k < length sizes
    → slice_index sizes k ≡ Size m (moved order (place order item) (first + k)))
    (least : (k : ℕ) → k < length sizes → slice_index sizes best ≤ slice_index sizes k)
    (counted : count ≡ Size m order) where
  -- the size with the item at an allowed place stands in the list
  listed : (j : ℕ) → IsAllowedPlace m order item j → (j - first < length sizes) × (first ≤ j)
      × (slice_index sizes (j - first) ≡ Size m (placed order item j))
  listed j may =
      let within = (places j may.0).0 may.1 in
      let a = within.0 in
      let b = within.1 in
      let low : j - first < length sizes = omega arith in
      let e : first + (j - first) ≡ j = omega arith in
      (low, a, each (j - first) low ∙ ap (λ (p : ℕ). Size m (placed order item p)) e)

  pub at_best_by : count ≤ slice_index sizes best → IsAtBest m order item
  at_best_by low j may =
      let here = listed j may in
      let size = here.2 in
      let less = least (j - first) here.0 in
      omega arith

  pub better_by : last < length order → best < length sizes
      → ((k : ℕ) → k < best → slice_index sizes best < slice_index sizes k)
      → slice_index sizes best < count → IsBetterPlace m order item (first + best)
  better_by within low first_least less =
      let here = each best low in
      let inside : first + best < length order = omega arith in
      record {
        allowed = (inside, (places (first + best) inside).1 (omega arith, omega arith));
        smaller = omega arith;
        least = λ k may.
            let there = listed k may in
            let size = there.2 in
            let no_less = least (k - first) there.0 in
            omega arith;
        first = λ k before may.
            let there = listed k may in
            let size = there.2 in
            let from = there.1 in
            let more = first_least (k - first) (omega arith) in
            omega arith;
      }

-- where each item is at its best place no single move is better
pub least_from_best : (m : Machine) (order : List ℕ) → OnePlace → Allowed m order
    → ((w : ℕ) → w < length order → IsAtBest m order w) → NoneSmaller m order
least_from_best m order one allowed settled other move ok =
    let i = move.0 in
    let j = move.1 in
    let x = slice_index order i in
    let at : place order x ≡ i = one order i allowed.permutation move.2 in
    let is : other ≡ placed order x j = move.4 ∙ ap (λ (p : ℕ). moved order p j) (sym at) in
    let h = settled x (allowed.permutation.below i move.2) j (move.3, subst (Allowed m) is ok) in
    subst (λ (o : List ℕ). Size m order ≤ Size m o) (sym is) h
