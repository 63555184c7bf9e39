use Rattle.std.proofs.Common.{◌≡◌, ◌∙◌, ◌+◌, ◌<◌, ◌≤◌, ℕ, List, length, slice_get, slice_index, Some, arith, sym, subst}
use Rattle.std.proofs.lemmas.Option.{get_or_from_slice_get}
use Rattle.domains.specs.Orders.{place}
use Rattle.transition_table.specs.declared.machine.Machine.{Machine}
use Rattle.transition_table.specs.Orders.{Allowed}
use Rattle.char_function.specs.Sizes.{Size}
use Rattle.order_sift.specs.Moves.{moved}
use Rattle.order_sift.specs.inner.Turns.{AreAllowedPlaces, IsCounted}
use Rattle.order_sift.proofs.AtBest.{at_best_by, better_by}
use Rattle.order_sift.proofs.turns.best_place.Goals.{After-get-count}
use Rattle.order_sift.proofs.turns.best_place.Goals as goal

pub sizes_at-requires-clause-moving : goal.sizes_at-requires-clause-moving
sizes_at-requires-clause-moving c =
    let sifting = c.requires.sifting in
    let at = c.requires.at in
    record {
      sure = sifting.sure;
      few = sifting.few;
      prepared = sifting.prepared;
      allowed = at.counted.allowed;
      chain = at.chain;
    }

pub sizes_at-requires-clause-sets : goal.sizes_at-requires-clause-sets
sizes_at-requires-clause-sets c = record { room = c.requires.room; known = c.requires.at.known }

pub sizes_at-requires-clause-range : goal.sizes_at-requires-clause-range
sizes_at-requires-clause-range c =
    let m = c.args.sifting.now.machine.now in
    let order = c.args.at.now.order in
    let p = c.place_of-i.ensures.place in
    let within = c.allowed_places-range.ensures.within in
    record {
      first = let a = c.allowed_places-range.ensures.first in omega arith;
      i = let a = c.allowed_places-range.ensures.last in omega arith;
      last = within;
      places = λ j a b. subst (λ (k : ℕ). Allowed m (moved order k j)) (sym p)
          ((c.allowed_places-range.ensures.places j (omega arith)).1 (a, b));
    }

-- the place of the least size
record IsLeast (m : Machine) (order sizes : List ℕ) (p first best count : ℕ) : Type 0 where
  within : first + best < length order
  counted : IsCounted m (moved order p (first + best)) count
  is : slice_index sizes best ≡ count
  each : (k : ℕ) → k < length sizes → slice_index sizes k ≡ Size m (moved order p (first + k))
  low : best < length sizes
  least : (k : ℕ) → k < length sizes → slice_index sizes best ≤ slice_index sizes k
  first_least : (k : ℕ) → k < best → slice_index sizes best < slice_index sizes k

least_of : (m : Machine) (order sizes slice : List ℕ) (i p first last best count : ℕ) → i ≡ p
    → AreAllowedPlaces m order p first last → last < length order → length sizes + first ≡ last + 1
    → ((k : ℕ) → k < length sizes → slice_index sizes k ≡ Size m (moved order i (first + k)))
    → slice ≡ sizes → best < length slice
    → ((k : ℕ) → k < length slice → slice_index slice best ≤ slice_index slice k)
    → ((k : ℕ) → k < best → slice_index slice best < slice_index slice k)
    → slice_get sizes best ≡ Some count → IsLeast m order sizes p first best count
least_of m order sizes slice i p first last best count at places within long by_i same below least
    first_least get =
    let low : best < length sizes = subst (λ (xs : List ℕ). best < length xs) same below in
    let is : slice_index sizes best ≡ count = get_or_from_slice_get sizes best count 0 get in
    let inside : first + best < length order = omega arith in
    let each = subst (λ (q : ℕ). (k : ℕ) → k < length sizes
    → slice_index sizes k ≡ Size m (moved order q (first + k))) at by_i in
    record {
      within = inside;
      counted = record {
        allowed = (places (first + best) inside).1 (omega arith, omega arith);
        counted = sym is ∙ each best low;
      };
      is = is;
      each = each;
      low = low;
      least = subst (λ (xs : List ℕ). (k : ℕ) → k < length xs
          → slice_index xs best ≤ slice_index xs k) same least;
      first_least = subst (λ (xs : List ℕ). (k : ℕ) → k < best
          → slice_index xs best < slice_index xs k) same first_least;
    }

here : (c : After-get-count)
    → IsLeast c.args.sifting.now.machine.now c.args.at.now.order c.in_ok-sizes.sizes
    (place c.args.at.now.order c.args.item) c.allowed_places-range.result.first
    c.place_of_least-best.result c.get-count.result.now
here c =
    let range = c.allowed_places-range.result in
    let found = c.place_of_least-best.ensures in
    least_of c.args.sifting.now.machine.now c.args.at.now.order c.in_ok-sizes.sizes
    c.as_slice.result.now c.place_of-i.result (place c.args.at.now.order c.args.item) range.first
    range.last c.place_of_least-best.result c.get-count.result.now c.place_of-i.ensures.place
    c.allowed_places-range.ensures.places c.allowed_places-range.ensures.within
    c.in_ok-sizes.ensures.long c.in_ok-sizes.ensures.each c.as_slice.ensures found.within
    found.least found.first c.get-count.ensures

pub returns-clause-known : goal.returns-clause-known
returns-clause-known c = c.in_ok-sizes.ensures.known

pub returns-clause-within : goal.returns-clause-within
returns-clause-within c = (here (goal.at.returns-clause-within c).After-get-count).within

pub returns-clause-counted : goal.returns-clause-counted
returns-clause-counted c = (here (goal.at.returns-clause-counted c).After-get-count).counted

pub returns-clause-least : goal.returns-clause-least
returns-clause-least c low =
    let range = c.allowed_places-range.result in
    let count = c.args.at.now.count in
    let h = here (goal.at.returns-clause-least c).After-get-count in
    at_best_by c.args.sifting.now.machine.now c.args.at.now.order c.in_ok-sizes.sizes c.args.item
    range.first range.last c.place_of_least-best.result count
    c.allowed_places-range.ensures.places c.in_ok-sizes.ensures.long h.each h.least
    c.requires.at.counted.counted (subst (λ (n : ℕ). count ≤ n) (sym h.is) low)

pub returns-clause-better : goal.returns-clause-better
returns-clause-better c less =
    let range = c.allowed_places-range.result in
    let count = c.args.at.now.count in
    let h = here (goal.at.returns-clause-better c).After-get-count in
    better_by c.args.sifting.now.machine.now c.args.at.now.order c.in_ok-sizes.sizes c.args.item
    range.first range.last c.place_of_least-best.result count
    c.allowed_places-range.ensures.places c.in_ok-sizes.ensures.long h.each h.least
    c.requires.at.counted.counted c.allowed_places-range.ensures.within h.low h.first_least
    (subst (λ (n : ℕ). n < count) (sym h.is) less)
