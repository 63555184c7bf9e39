use Rattle.std.proofs.Common.{◌≡◌, ◌∙◌, ◌+◌, ◌-◌, ◌<◌, ◌≤◌, ◌||◌, ◌==◌, ℕ, List, Some, length, take, get_or, slice_get, slice_index, arith, sym, ap, subst, refl, false, []}
use Rattle.std.specs.Prelude.{IsTrue}
use Rattle.std.specs.List.{remove}
use Rattle.std.proofs.lemmas.Option.{get_or_from_slice_get}
use Rattle.domains.specs.Tables.{are_sizes, product}
use Rattle.transition_table.specs.declared.machine.Machine.{Machine}
use Rattle.transition_table.specs.Computed.{char}
use Rattle.transition_table.specs.Orders.{Allowed, sizes_of}
use Rattle.transition_table.specs.Transitions.{IsDeterministic}
use Rattle.decision_diagram.specs.Sets.{stands, set_level}
use Rattle.order_sift.specs.declared.chain.Chain.{Chain}
use Rattle.order_sift.specs.inner.Below.{BelowOrders}
use Rattle.order_sift.specs.inner.Chains.{AreSizes, IsChain}
use Rattle.order_sift.specs.inner.Classes.{AreClasses, fixed_too}
use Rattle.order_sift.specs.inner.Known.{in_set}
use Rattle.order_sift.specs.inner.Settings.{IsRange}
use Rattle.order_sift.proofs.ChainPlaces.{IsItemOf, item_of}
use Rattle.order_sift.proofs.ChainSteps.{Follows, sizes_set, front_low, after_free, after_more, after_next, steps_after, start_without}
use Rattle.order_sift.proofs.PairKeys.{room_kept}
use Rattle.order_sift.proofs.ItemSets.{one_more, same_level, same_too, small_items}
use Rattle.order_sift.proofs.MovedLevels.{front_of, same_classes, same_next, take_low}
use Rattle.order_sift.proofs.moves.fill_after.Goals.{After-get-next, After-len-items, In-loop-j}
use Rattle.order_sift.proofs.moves.fill_after.Goals as goal
use Rattle.polis_base.proofs.Places.{length_set}
use Rattle.transition_table.proofs.MachineCounts.{order_length as items}

-- the item at place j is the next after which the item at place i is put
record Later (m : Machine) (o : List ℕ) (classes : List (List ℕ)) (i j set item next : ℕ) :
    Type 0 where
  high : i < j
  within : j < length o
  item_is : slice_index o i ≡ item
  next_is : slice_index o j ≡ next
  item_low : item < length m.vars + length m.results
  next_low : next < length m.vars + length m.results
  free : in_set set next ≡ false
  same : (more : ℕ) → ((w : ℕ) → in_set more w ≡ fixed_too (in_set set) next w) → (w : ℕ)
      → in_set more w ≡ stands (take j (remove o i)) w
  follows : Follows m (stands (take j (remove o i))) (slice_index o i)
      (get_or classes (length o - 1 - j) [])

later : (m : Machine) (o : List ℕ) (laws : BelowOrders) (sure : IsDeterministic m)
    (allowed : Allowed m o) (chain : Chain) (is_chain : IsChain m o chain)
    (sized : IsTrue (are_sizes (sizes_of m))) (i first last j set item next : ℕ)
    → IsRange m o i first last → i + 1 ≤ j → j < last + 1 → slice_get o i ≡ Some item
    → slice_get o j ≡ Some next
    → ((w : ℕ) → in_set set w ≡ stands (take (j - 1) (remove o i)) w)
    → Later m o chain.classes i j set item next
later m o laws sure allowed chain is_chain sized i first last j set item next range up turn
    item_got next_got set_is =
    let low = range.first in
    let most = range.last in
    let own = range.i in
    let li : i < length o = omega arith in
    let high : i < j = omega arith in
    let lj : j < length o = omega arith in
    let item_is = get_or_from_slice_get o i item 0 item_got in
    let next_is = get_or_from_slice_get o j next 0 next_got in
    let many = items m o allowed in
    let item_at = allowed.permutation.below i li in
    let next_at = allowed.permutation.below j lj in
    record {
      high = high;
      within = lj;
      item_is = item_is;
      next_is = next_is;
      item_low = omega arith;
      next_low = omega arith;
      free = set_is next
          ∙ after_free m o laws sure allowed chain.classes chain.backs is_chain i li sized j next
          high lj (range.places (j - 1) (omega arith) (omega arith)) next_is;
      same = λ more is w. is w ∙ ap (λ b. b || next == w) (set_is w)
          ∙ after_more m o laws sure allowed chain.classes chain.backs is_chain i li sized j next w
          high lj next_is;
      follows = after_next m o laws sure allowed chain.classes chain.backs is_chain i li sized j
          high lj (range.places j (omega arith) (omega arith));
    }

here : (c : After-get-next)
    → Later c.args.moving.now.machine.now c.args.moving.now.order.now
    c.args.moving.now.chain.now.classes c.args.i c.loop-j.j c.loop-j.set c.get-item.result.now
    c.get-next.result.now
here c =
    let moving = c.requires.moving in
    later c.args.moving.now.machine.now c.args.moving.now.order.now c.laws_of_levels.ensures.laws
    moving.sure moving.allowed c.args.moving.now.chain.now moving.chain
    c.laws_of_levels.ensures.sizes c.args.i c.args.range.first c.args.range.last c.loop-j.j
    c.loop-j.set c.get-item.result.now c.get-next.result.now c.requires.range
    c.loop-j.invariant.later c.loop-j-test.true c.get-item.ensures c.get-next.ensures
    c.loop-j.invariant.set

-- the item's own place, and the place of this turn
own_here : (c : After-len-items) (listed : ℕ) → listed ≡ length c.args.moving.now.order.now + 1
    → IsItemOf c.args.i c.len-items.result listed
own_here c listed wide =
    item_of c.args.i c.args.range.last (length c.args.moving.now.order.now) c.len-items.result
    listed c.requires.range.i c.requires.range.last c.len-items.ensures.len wide

most : (j last : ℕ) → j < last + 1 → j ≤ last
most j last low = omega arith

next_here : (c : In-loop-j) (listed : ℕ) → listed ≡ length c.args.moving.now.order.now + 1
    → IsItemOf c.loop-j.j c.len-items.result listed
next_here c listed wide =
    item_of c.loop-j.j c.args.range.last (length c.args.moving.now.order.now)
    c.len-items.result listed (most c.loop-j.j c.args.range.last c.loop-j-test.true)
    c.requires.range.last c.len-items.ensures.len wide

one_more_fits : (i long items : ℕ) → i < long → items ≡ long → items < 18446744073709551616
    → i + 1 < 18446744073709551616
one_more_fits i long items low is fits = omega arith

later_high : (first i j : ℕ) → first ≤ i → i + 1 ≤ j → first ≤ j
later_high first i j low later = omega arith

pub get-item-requires : goal.get-item-requires
get-item-requires c =
    subst (λ (n : ℕ). c.args.i < n) c.len-items.ensures.len
    (own_here (goal.at.get-item-requires c).After-len-items _ c.requires.moving.chain.long_backs).low

pub get-whole-requires : goal.get-whole-requires
get-whole-requires c =
    (own_here (goal.at.get-whole-requires c).After-len-items _
    c.requires.moving.chain.long_backs).end

pub overflow_sub-items : goal.overflow_sub-items
overflow_sub-items c =
    (own_here (goal.at.overflow_sub-items c).After-len-items _
    c.requires.moving.chain.long_backs).front

pub get-after-requires : goal.get-after-requires
get-after-requires c =
    (own_here (goal.at.get-after-requires c).After-len-items _
    c.requires.moving.chain.long_backs).own

pub overflow_sub-items-2 : goal.overflow_sub-items-2
overflow_sub-items-2 c =
    (own_here (goal.at.overflow_sub-items-2 c).After-len-items _
    c.requires.moving.chain.long_backs).front

pub get-start-requires : goal.get-start-requires
get-start-requires c =
    (own_here (goal.at.get-start-requires c).After-len-items _
    c.requires.moving.chain.long).own

pub overflow_step-j : goal.overflow_step-j
overflow_step-j c =
    let low = own_here (goal.at.overflow_step-j c).After-len-items _
    c.requires.moving.chain.long_backs in
    record {
      fits = one_more_fits c.args.i c.len-items.result c.len-items.result low.low refl
          c.len-items.type_inv;
    }

pub overflow_add-j-end : goal.overflow_add-j-end
overflow_add-j-end c = record {
  fits = one_more_fits c.args.range.last (length c.args.moving.now.order.now)
      c.len-items.result c.requires.range.last c.len-items.ensures.len c.len-items.type_inv;
}

pub get-next-requires : goal.get-next-requires
get-next-requires c =
    subst (λ (n : ℕ). c.loop-j.j < n) c.len-items.ensures.len
    (next_here (goal.at.get-next-requires c).In-loop-j _ c.requires.moving.chain.long_backs).low

pub get-with_item-requires : goal.get-with_item-requires
get-with_item-requires c =
    (next_here (goal.at.get-with_item-requires c).In-loop-j _
    c.requires.moving.chain.long).next

pub get-back-requires : goal.get-back-requires
get-back-requires c =
    (next_here (goal.at.get-back-requires c).In-loop-j _
    c.requires.moving.chain.long_backs).next

pub overflow_sub-items-in-loop-j : goal.overflow_sub-items-in-loop-j
overflow_sub-items-in-loop-j c =
    (next_here (goal.at.overflow_sub-items-in-loop-j c).In-loop-j _
    c.requires.moving.chain.long_backs).some

pub overflow_sub-items-in-loop-j-2 : goal.overflow_sub-items-in-loop-j-2
overflow_sub-items-in-loop-j-2 c =
    (next_here (goal.at.overflow_sub-items-in-loop-j-2 c).In-loop-j _
    c.requires.moving.chain.long_backs).last

pub overflow_sub-items-in-loop-j-3 : goal.overflow_sub-items-in-loop-j-3
overflow_sub-items-in-loop-j-3 c =
    (next_here (goal.at.overflow_sub-items-in-loop-j-3 c).In-loop-j _
    c.requires.moving.chain.long_backs).some

pub overflow_sub-items-in-loop-j-4 : goal.overflow_sub-items-in-loop-j-4
overflow_sub-items-in-loop-j-4 c =
    (next_here (goal.at.overflow_sub-items-in-loop-j-4 c).In-loop-j _
    c.requires.moving.chain.long_backs).last

pub overflow_sub-j : goal.overflow_sub-j
overflow_sub-j c =
    later_high c.args.range.first c.args.i c.loop-j.j c.requires.range.first
    c.loop-j.invariant.later

pub returns-clause-known : goal.returns-clause-known
returns-clause-known c = c.loop-j.invariant.known

pub returns-clause-long : goal.returns-clause-long
returns-clause-long c = c.loop-j.invariant.long

pub loop-j-init : goal.loop-j-init
loop-j-init c =
    let m = c.args.moving.now.machine.now in
    let o = c.args.moving.now.order.now in
    let chain = c.args.moving.now.chain.now in
    let laws = c.laws_of_levels.ensures.laws in
    let sized = c.laws_of_levels.ensures.sizes in
    let i = c.args.i in
    let l = c.len-items.ensures.len in
    let first = c.args.range.first in
    let li : i < length o = let a = c.requires.range.i in let b = c.requires.range.last in omega arith in
    let e : i ≡ i + 1 - 1 = omega arith in
    let whole_is = ap (slice_index chain.backs) (sym l)
    ∙ get_or_from_slice_get chain.backs c.len-items.result c.get-whole.result.now 0
    c.get-whole.ensures in
    let after_is = ap (λ (n : ℕ). slice_index chain.backs (n - i)) (sym l)
    ∙ get_or_from_slice_get chain.backs (c.len-items.result - i) c.get-after.result.now 0
    c.get-after.ensures in
    let fronts = front_low m o laws c.requires.moving.sure c.requires.moving.allowed chain.classes chain.backs
    c.requires.moving.chain i li sized i (let h : i ≤ i = omega arith in h) in
    let fronts_is = fronts.1 in
    let front : c.get-whole.result.now - c.get-after.result.now ≡ front_of m o i i = omega arith in
    let whole_few =
    c.requires.moving.chain.few (length o) (let h : length o ≤ length o = omega arith in h) in
    let got : get_or chain.classes (length o - i) [] ≡ c.in_ok-without_item.without_item =
    ap (λ (n : ℕ). get_or chain.classes (n - i) []) (sym l)
    ∙ get_or_from_slice_get chain.classes (c.len-items.result - i) c.get-start.result.now []
    c.get-start.ensures ∙ sym c.as_slice.ensures ∙ sym c.in_ok-without_item.ensures in
    let start = subst (AreClasses m (stands (take i (remove o i)))) got
    (start_without m o laws c.requires.moving.sure c.requires.moving.allowed chain.classes chain.backs
    c.requires.moving.chain i li sized) in
    record {
      room = c.requires.sets.room;
      known = c.requires.sets.known;
      set = λ w. c.first_items-set.ensures w
          ∙ ap (λ (xs : List ℕ). stands xs w)
          (sym (take_low o i i (let h : i ≤ i = omega arith in h)))
          ∙ ap (λ (n : ℕ). stands (take n (remove o i)) w) e;
      long = refl;
      later = omega arith;
      front = front ∙ ap (front_of m o i) e;
      few = omega arith;
      classes = subst
          (λ (n : ℕ). AreClasses m (stands (take n (remove o i))) c.in_ok-without_item.without_item)
          e start;
      sizes = subst (λ (n : ℕ). AreSizes m o i first c.args.sizes.now first n) e c.requires.own;
    }

pub loop-j-preserved : goal.loop-j-preserved
loop-j-preserved c =
    let m = c.args.moving.now.machine.now in
    let o = c.args.moving.now.order.now in
    let chain = c.args.moving.now.chain.now in
    let laws = c.laws_of_levels.ensures.laws in
    let sized = c.laws_of_levels.ensures.sizes in
    let i = c.args.i in
    let l = c.len-items.ensures.len in
    let first = c.args.range.first in
    let low_i = c.requires.range.first in
    let last = c.requires.range.last in
    let li : i < length o = let a = c.requires.range.i in omega arith in
    let j = c.loop-j.j in
    let test = c.loop-j-test.true in
    let inv = c.loop-j.invariant in
    let later = inv.later in
    let h = here (goal.at.loop-j-preserved c).After-get-next in
    let high = h.high in
    let lj = h.within in
    let next = c.get-next.result.now in
    let back : c.get-back.result.now ≡ slice_index chain.backs (length o - 1 - j) =
    sym (ap (λ (n : ℕ). slice_index chain.backs (n - 1 - j)) (sym l)
    ∙ get_or_from_slice_get chain.backs (c.len-items.result - 1 - j) c.get-back.result.now 0
    c.get-back.ensures) in
    let own = c.in_ok-numbers.field-0.level in
    let here = c.in_ok-here.here in
    let old_front = c.loop-j.front in
    let freer = c.in_ok-numbers.field-0.numbers in
    let bare = stands (take j (remove o i)) in
    let same : (w : ℕ) → in_set c.with-more.result w ≡ bare w =
    h.same c.with-more.result
    (one_more c.loop-j.set c.with-more.result next c.with-more.ensures) in
    let made = same_classes m (in_set c.with-more.result) bare freer same
    c.in_ok-numbers.ensures.numbers in
    let level = same_level m (in_set c.loop-j.set) (stands (take (j - 1) (remove o i))) next here
    inv.set c.in_ok-here.ensures.level in
    let own_level = subst (λ (x : ℕ). own ≡ set_level (char m) (sizes_of m) bare x) (sym h.item_is)
    (same_level m (in_set c.with-more.result) bare c.get-item.result.now own same
    c.in_ok-numbers.ensures.level) in
    let step = steps_after m o laws c.requires.moving.sure c.requires.moving.allowed chain.classes chain.backs
    c.requires.moving.chain i li sized j next here old_front own c.get-back.result.now
    freer high lj h.next_is inv.front level made own_level back in
    let e : j ≡ j + 1 - 1 = omega arith in
    let set = c.set.ensures in
    let long = inv.long in
    let room = c.requires.long in
    let few = inv.few in
    let few_here = c.in_ok-here.ensures.few in
    let value = (old_front + here) + own + c.get-back.result.now in
    let sizes = sizes_set m o c.loop-j.sizes i first j value first (j - 1) first j
    (let h : first ≤ first = omega arith in
    h) (omega arith) (omega arith) step.whole_is inv.sizes (λ k a b apart. (a, omega arith)) in
    record {
      room = room_kept (product m.vars) _ _ c.freed_after.auto.seen inv.room;
      known = c.in_ok-numbers.ensures.known;
      set = λ w. same w ∙ ap (λ (n : ℕ). stands (take n (remove o i)) w) e;
      long = ap (λ (xs : List ℕ). length xs) set ∙ length_set c.loop-j.sizes (j - first) value ∙ long;
      later = omega arith;
      front = step.front_is ∙ ap (front_of m o i) e;
      few = omega arith;
      classes = subst (λ (n : ℕ). AreClasses m (stands (take n (remove o i))) freer) e step.numbers;
      sizes = subst (λ (n : ℕ). AreSizes m o i first c.set.new.self first n) e
          (subst (λ (xs : List ℕ). AreSizes m o i first xs first j) (sym set) sizes);
    }

pub level_after-requires-clause-points : goal.level_after-requires-clause-points
level_after-requires-clause-points c = record {
  few = c.requires.moving.few;
  prepared = c.requires.moving.prepared;
}

pub level_after-requires-clause-known : goal.level_after-requires-clause-known
level_after-requires-clause-known c = c.loop-j.invariant.known

pub freed_after-requires-clause-points : goal.freed_after-requires-clause-points
freed_after-requires-clause-points c = record {
  few = c.requires.moving.few;
  prepared = c.requires.moving.prepared;
}

pub freed_after-requires-clause-room : goal.freed_after-requires-clause-room
freed_after-requires-clause-room c = c.loop-j.invariant.room

pub freed_after-requires-clause-known : goal.freed_after-requires-clause-known
freed_after-requires-clause-known c = c.in_ok-here.ensures.known

pub level_after-requires-clause-item : goal.level_after-requires-clause-item
level_after-requires-clause-item c =
    (here (goal.at.level_after-requires-clause-item c).After-get-next).next_low

pub freed_after-requires-clause-item : goal.freed_after-requires-clause-item
freed_after-requires-clause-item c =
    (here (goal.at.freed_after-requires-clause-item c).After-get-next).item_low

pub first_items-set-requires-clause-count : goal.first_items-set-requires-clause-count
first_items-set-requires-clause-count c =
    let a = c.requires.range.i in let b = c.requires.range.last in omega arith

pub first_items-set-requires-clause-small : goal.first_items-set-requires-clause-small
first_items-set-requires-clause-small c =
    small_items c.args.moving.now.machine.now c.args.moving.now.order.now c.requires.moving.allowed
    c.laws_of_levels.ensures.few

pub with-more-requires : goal.with-more-requires
with-more-requires c =
    let next = (here (goal.at.with-more-requires c).After-get-next).next_low in
    let few = c.laws_of_levels.ensures.few in
    omega arith

pub level_after-requires-clause-free : goal.level_after-requires-clause-free
level_after-requires-clause-free c =
    (here (goal.at.level_after-requires-clause-free c).After-get-next).free

pub level_after-requires-clause-classes : goal.level_after-requires-clause-classes
level_after-requires-clause-classes c =
    let m = c.args.moving.now.machine.now in
    let o = c.args.moving.now.order.now in
    let i = c.args.i in
    let j = c.loop-j.j in
    same_classes m (stands (take (j - 1) (remove o i))) (in_set c.loop-j.set)
    c.loop-j.without_item (λ w. sym (c.loop-j.invariant.set w)) c.loop-j.invariant.classes

pub freed_after-requires-clause-next : goal.freed_after-requires-clause-next
freed_after-requires-clause-next c =
    let m = c.args.moving.now.machine.now in
    let o = c.args.moving.now.order.now in
    let h = here (goal.at.freed_after-requires-clause-next c).After-get-next in
    same_next m (stands (take c.loop-j.j (remove o c.args.i))) (in_set c.with-more.result)
    (slice_index o c.args.i) c.get-item.result.now
    (λ w. sym (h.same c.with-more.result
    (one_more c.loop-j.set c.with-more.result c.get-next.result.now c.with-more.ensures) w)) h.item_is h.follows.next

pub freed_after-requires-clause-classes : goal.freed_after-requires-clause-classes
freed_after-requires-clause-classes c =
    let m = c.args.moving.now.machine.now in
    let o = c.args.moving.now.order.now in
    let chain = c.args.moving.now.chain.now in
    let i = c.args.i in
    let j = c.loop-j.j in
    let item = c.get-item.result.now in
    let old = c.get-with_item.result.now in
    let h = here (goal.at.freed_after-requires-clause-classes c).After-get-next in
    let bare = stands (take j (remove o i)) in
    let got = ap (λ (n : ℕ). get_or chain.classes (n - 1 - j) []) (sym c.len-items.ensures.len)
    ∙ get_or_from_slice_get chain.classes (c.len-items.result - 1 - j) old []
    c.get-with_item.ensures in
    same_too m bare (in_set c.with-more.result) item old
    (λ w. sym (h.same c.with-more.result
    (one_more c.loop-j.set c.with-more.result c.get-next.result.now c.with-more.ensures) w))
    (subst (λ (x : ℕ). AreClasses m (fixed_too bare x) old) h.item_is
    (subst (AreClasses m (fixed_too bare (slice_index o i))) got h.follows.too))

pub overflow_sub-front : goal.overflow_sub-front
overflow_sub-front c =
    let m = c.args.moving.now.machine.now in
    let o = c.args.moving.now.order.now in
    let chain = c.args.moving.now.chain.now in
    let laws = c.laws_of_levels.ensures.laws in
    let sized = c.laws_of_levels.ensures.sizes in
    let i = c.args.i in
    let l = c.len-items.ensures.len in
    let li : i < length o = let a = c.requires.range.i in let b = c.requires.range.last in omega arith in
    let whole_is = ap (slice_index chain.backs) (sym l)
    ∙ get_or_from_slice_get chain.backs c.len-items.result c.get-whole.result.now 0
    c.get-whole.ensures in
    let after_is = ap (λ (n : ℕ). slice_index chain.backs (n - i)) (sym l)
    ∙ get_or_from_slice_get chain.backs (c.len-items.result - i) c.get-after.result.now 0
    c.get-after.ensures in
    let fronts = front_low m o laws c.requires.moving.sure c.requires.moving.allowed chain.classes chain.backs
    c.requires.moving.chain i li sized i (let h : i ≤ i = omega arith in h) in
    let low = fronts.0 in
    omega arith

pub overflow_add-front : goal.overflow_add-front
overflow_add-front c =
    let n = items c.args.moving.now.machine.now c.args.moving.now.order.now c.requires.moving.allowed in
    let items_few = c.laws_of_levels.ensures.few in
    let few = c.loop-j.invariant.few in
    let here = c.in_ok-here.ensures.few in
    let test = c.loop-j-test.true in
    let last = c.requires.range.last in
    omega arith

pub overflow_add-size : goal.overflow_add-size
overflow_add-size c =
    let n = items c.args.moving.now.machine.now c.args.moving.now.order.now c.requires.moving.allowed in
    let items_few = c.laws_of_levels.ensures.few in
    let few = c.loop-j.invariant.few in
    let here = c.in_ok-here.ensures.few in
    let own = c.in_ok-numbers.ensures.few in
    let test = c.loop-j-test.true in
    let last = c.requires.range.last in
    omega arith

pub overflow_add-size-in-loop-j : goal.overflow_add-size-in-loop-j
overflow_add-size-in-loop-j c =
    let m = c.args.moving.now.machine.now in
    let o = c.args.moving.now.order.now in
    let chain = c.args.moving.now.chain.now in
    let laws = c.laws_of_levels.ensures.laws in
    let sized = c.laws_of_levels.ensures.sizes in
    let i = c.args.i in
    let l = c.len-items.ensures.len in
    let j = c.loop-j.j in
    let n = items m o c.requires.moving.allowed in
    let items_few = c.laws_of_levels.ensures.few in
    let few = c.loop-j.invariant.few in
    let here = c.in_ok-here.ensures.few in
    let own = c.in_ok-numbers.ensures.few in
    let test = c.loop-j-test.true in
    let last = c.requires.range.last in
    let back = ap (λ (n : ℕ). slice_index chain.backs (n - 1 - j)) (sym l)
    ∙ get_or_from_slice_get chain.backs (c.len-items.result - 1 - j) c.get-back.result.now 0
    c.get-back.ensures in
    let back_few = c.requires.moving.chain.few (length o - 1 - j) (omega arith) in
    omega arith

pub set-requires : goal.set-requires
set-requires c =
    let test = c.loop-j-test.true in
    let later = c.loop-j.invariant.later in
    let long = c.loop-j.invariant.long in
    let room = c.requires.long in
    let first = c.requires.range.first in
    omega arith

pub returns-clause-each : goal.returns-clause-each
returns-clause-each c =
    let i = c.args.i in
    let first = c.args.range.first in
    let last = c.args.range.last in
    let j = c.loop-j.j in
    let e : j - 1 ≡ last = let a = c.loop-j-test.false in let b = c.loop-j.auto.j-end in
    let d = c.loop-j.invariant.later in let h = c.requires.range.i in omega arith in
    subst (λ (n : ℕ). AreSizes c.args.moving.now.machine.now c.args.moving.now.order.now i first
    c.loop-j.sizes first n) e c.loop-j.invariant.sizes
