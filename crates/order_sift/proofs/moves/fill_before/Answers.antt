use Rattle.std.proofs.Common.{◌≡◌, ◌∙◌, ◌+◌, ◌-◌, ◌<◌, ◌≤◌, ◌∷◌, ◌++◌, ℕ, List, Some, length, take, get_or, slice_get, slice_index, arith, sym, ap, subst, refl, false, []}
use Rattle.std.specs.Prelude.{IsTrue}
use Rattle.std.specs.List.{remove}
use Rattle.std.proofs.lemmas.Option.{get_or_from_slice_get}
use Rattle.domains.specs.Tables.{are_sizes, product}
use Rattle.transition_table.specs.declared.machine.Machine.{Machine}
use Rattle.transition_table.specs.Computed.{char}
use Rattle.transition_table.specs.Orders.{Allowed, sizes_of}
use Rattle.transition_table.specs.Transitions.{IsDeterministic}
use Rattle.decision_diagram.specs.Sets.{stands, set_level}
use Rattle.order_sift.specs.declared.chain.Chain.{Chain}
use Rattle.order_sift.specs.inner.Below.{BelowOrders}
use Rattle.order_sift.specs.inner.Chains.{AreSizes, IsChain}
use Rattle.order_sift.specs.inner.Classes.{AreClasses, IsNextItem, fixed_too}
use Rattle.order_sift.specs.inner.Known.{in_set}
use Rattle.order_sift.specs.inner.Settings.{IsRange}
use Rattle.order_sift.proofs.ChainPlaces.{IsItemOf, IsTurn, item_of, turn_of}
use Rattle.order_sift.proofs.ChainSteps.{sizes_set, front_low, before_next, own_free, own_classes, steps_before, start_with, back_high}
use Rattle.order_sift.proofs.PairKeys.{room_kept}
use Rattle.order_sift.proofs.ItemSets.{one_more, set_before, set_with, same_level, same_too, small_items}
use Rattle.order_sift.proofs.MovedLevels.{back_of, same_classes, same_next, rest_long}
use Rattle.order_sift.proofs.moves.fill_before.Goals.{After-len-items, After-with-set, In-loop-t}
use Rattle.order_sift.proofs.moves.fill_before.Goals as goal
use Rattle.polis_base.proofs.Places.{length_set}
use Rattle.transition_table.proofs.MachineCounts.{order_length}

-- the item at place j is the next before which the item at place i is put, and the sets of those
-- before it without that item and with it
record Earlier (m : Machine) (o : List ℕ) (i j before set item next : ℕ) (old : List ℕ) :
    Type 0 where
  low : j < i
  item_is : slice_index o i ≡ item
  next_is : slice_index o j ≡ next
  item_low : item < length m.vars + length m.results
  next_low : next < length m.vars + length m.results
  same : (w : ℕ) → in_set before w ≡ stands (take j (remove o i)) w
  same_with : (w : ℕ) → in_set set w ≡ stands (take j (remove o i) ++ slice_index o i ∷ []) w
  follows : IsNextItem m (in_set set) next
  too : AreClasses m (fixed_too (in_set set) next) old
  free : in_set before item ≡ false

earlier : (m : Machine) (o : List ℕ) (laws : BelowOrders) (sure : IsDeterministic m)
    (allowed : Allowed m o) (chain : Chain) (is_chain : IsChain m o chain)
    (sized : IsTrue (are_sizes (sizes_of m))) (i first t before set item next : ℕ) (old : List ℕ)
    → IsRange m o i first i → t < i - first → slice_get o i ≡ Some item
    → slice_get o (i - 1 - t) ≡ Some next
    → ((w : ℕ) → in_set before w ≡ stands (take (i - 1 - t) o) w)
    → ((w : ℕ) → in_set set w ≡ fixed_too (in_set before) item w)
    → AreClasses m (stands (take (i - t) (remove o i) ++ slice_index o i ∷ [])) old
    → Earlier m o i (i - 1 - t) before set item next old
earlier m o laws sure allowed chain is_chain sized i first t before set item next old range turn
    item_got next_got before_is set_is old_are =
    let j = i - 1 - t in
    let li = range.last in
    let low : j < i = omega arith in
    let e_old : i - t ≡ j + 1 = omega arith in
    let may = range.places j (omega arith) (omega arith) in
    let item_is = get_or_from_slice_get o i item 0 item_got in
    let next_is = get_or_from_slice_get o j next 0 next_got in
    let with_it = stands (take j (remove o i) ++ slice_index o i ∷ []) in
    let same = set_before o before i j before_is (omega arith) in
    let same_with : (w : ℕ) → in_set set w ≡ with_it w =
    set_with o before set item i j item_is same set_is in
    let long = rest_long m o laws sure allowed i li in
    let many = order_length m o allowed in
    let item_at = allowed.permutation.below i li in
    let next_at = allowed.permutation.below j (omega arith) in
    let follows = before_next m o laws sure allowed chain.classes chain.backs is_chain i li sized j
    next old low may next_is (subst
    (λ (n : ℕ). AreClasses m (stands (take n (remove o i) ++ slice_index o i ∷ [])) old) e_old
    old_are) in
    record {
      low = low;
      item_is = item_is;
      next_is = next_is;
      item_low = omega arith;
      next_low = omega arith;
      same = same;
      same_with = same_with;
      follows = same_next m with_it (in_set set) next next (λ w. sym (same_with w)) refl
          follows.next;
      too = same_too m with_it (in_set set) next old (λ w. sym (same_with w)) follows.too;
      free = same item ∙ ap (stands (take j (remove o i))) (sym item_is)
          ∙ own_free m o laws sure allowed chain.classes chain.backs is_chain i li sized j
          (omega arith) may;
    }

here : (c : After-with-set)
    → Earlier c.args.moving.now.machine.now c.args.moving.now.order.now c.args.i
    (c.args.i - 1 - c.loop-t.t) c.first_items-before.result c.with-set.result c.get-item.result.now
    c.get-next.result.now c.loop-t.with_item
here c =
    let moving = c.requires.moving in
    earlier c.args.moving.now.machine.now c.args.moving.now.order.now
    c.laws_of_levels.ensures.laws moving.sure moving.allowed c.args.moving.now.chain.now
    moving.chain c.laws_of_levels.ensures.sizes c.args.i c.args.first c.loop-t.t
    c.first_items-before.result c.with-set.result c.get-item.result.now c.get-next.result.now
    c.loop-t.with_item c.requires.range c.loop-t-test.true c.get-item.ensures c.get-next.ensures
    c.first_items-before.ensures
    (one_more c.first_items-before.result c.with-set.result c.get-item.result.now
    c.with-set.ensures)
    c.loop-t.invariant.classes

-- the item's own place, and the place of this turn
own_here : (c : After-len-items) (listed : ℕ) → listed ≡ length c.args.moving.now.order.now + 1
    → IsItemOf c.args.i c.len-items.result listed
own_here c listed wide =
    item_of c.args.i c.args.i (length c.args.moving.now.order.now) c.len-items.result listed
    c.requires.range.i c.requires.range.last c.len-items.ensures.len wide

turn_here : (c : In-loop-t) → IsTurn c.args.i c.args.first c.loop-t.t
turn_here c = turn_of c.args.i c.args.first c.loop-t.t c.loop-t-test.true

next_here : (c : In-loop-t) (listed : ℕ) → listed ≡ length c.args.moving.now.order.now + 1
    → IsItemOf (c.args.i - 1 - c.loop-t.t) c.len-items.result listed
next_here c listed wide =
    item_of (c.args.i - 1 - c.loop-t.t) c.args.i (length c.args.moving.now.order.now)
    c.len-items.result listed (turn_here c).low c.requires.range.last c.len-items.ensures.len wide

pub get-item-requires : goal.get-item-requires
get-item-requires c = c.requires.range.last

pub get-whole-requires : goal.get-whole-requires
get-whole-requires c =
    (own_here (goal.at.get-whole-requires c).After-len-items _
    c.requires.moving.chain.long_backs).end

pub get-back-requires : goal.get-back-requires
get-back-requires c =
    (own_here (goal.at.get-back-requires c).After-len-items _
    c.requires.moving.chain.long_backs).next

pub get-start-requires : goal.get-start-requires
get-start-requires c =
    (own_here (goal.at.get-start-requires c).After-len-items _
    c.requires.moving.chain.long).next

pub overflow_sub-items : goal.overflow_sub-items
overflow_sub-items c =
    (own_here (goal.at.overflow_sub-items c).After-len-items _
    c.requires.moving.chain.long_backs).some

pub overflow_sub-items-2 : goal.overflow_sub-items-2
overflow_sub-items-2 c =
    (own_here (goal.at.overflow_sub-items-2 c).After-len-items _
    c.requires.moving.chain.long_backs).last

pub overflow_sub-items-3 : goal.overflow_sub-items-3
overflow_sub-items-3 c =
    (own_here (goal.at.overflow_sub-items-3 c).After-len-items _
    c.requires.moving.chain.long_backs).some

pub overflow_sub-items-4 : goal.overflow_sub-items-4
overflow_sub-items-4 c =
    (own_here (goal.at.overflow_sub-items-4 c).After-len-items _
    c.requires.moving.chain.long_backs).last

pub overflow_sub-t-end : goal.overflow_sub-t-end
overflow_sub-t-end c = c.requires.range.first

pub overflow_sub-j : goal.overflow_sub-j
overflow_sub-j c = (turn_here (goal.at.overflow_sub-j c).In-loop-t).some

pub overflow_sub-j-in-loop-t : goal.overflow_sub-j-in-loop-t
overflow_sub-j-in-loop-t c = (turn_here (goal.at.overflow_sub-j-in-loop-t c).In-loop-t).early

pub overflow_sub-j-in-loop-t-2 : goal.overflow_sub-j-in-loop-t-2
overflow_sub-j-in-loop-t-2 c = (turn_here (goal.at.overflow_sub-j-in-loop-t-2 c).In-loop-t).high

pub get-next-requires : goal.get-next-requires
get-next-requires c =
    subst (λ (n : ℕ). c.args.i - 1 - c.loop-t.t < n) c.len-items.ensures.len
    (next_here (goal.at.get-next-requires c).In-loop-t _ c.requires.moving.chain.long_backs).low

pub overflow_sub-items-in-loop-t : goal.overflow_sub-items-in-loop-t
overflow_sub-items-in-loop-t c =
    (next_here (goal.at.overflow_sub-items-in-loop-t c).In-loop-t _
    c.requires.moving.chain.long_backs).front

pub overflow_sub-items-in-loop-t-2 : goal.overflow_sub-items-in-loop-t-2
overflow_sub-items-in-loop-t-2 c =
    (next_here (goal.at.overflow_sub-items-in-loop-t-2 c).In-loop-t _
    c.requires.moving.chain.long_backs).front

pub get-without_item-requires : goal.get-without_item-requires
get-without_item-requires c =
    (next_here (goal.at.get-without_item-requires c).In-loop-t _
    c.requires.moving.chain.long).own

pub get-after-requires : goal.get-after-requires
get-after-requires c =
    (next_here (goal.at.get-after-requires c).In-loop-t _
    c.requires.moving.chain.long_backs).own

pub returns-clause-known : goal.returns-clause-known
returns-clause-known c = c.loop-t.invariant.known

pub returns-clause-long : goal.returns-clause-long
returns-clause-long c = c.loop-t.invariant.long

pub loop-t-init : goal.loop-t-init
loop-t-init c =
    let m = c.args.moving.now.machine.now in
    let o = c.args.moving.now.order.now in
    let chain = c.args.moving.now.chain.now in
    let laws = c.laws_of_levels.ensures.laws in
    let sized = c.laws_of_levels.ensures.sizes in
    let i = c.args.i in
    let l = c.len-items.ensures.len in
    let first = c.args.first in
    let li = c.requires.range.last in
    let e : i ≡ i - 0 = omega arith in
    let back : c.get-back.result.now ≡ back_of m o i i =
    sym (ap (λ (n : ℕ). slice_index chain.backs (n - 1 - i)) (sym l)
    ∙ get_or_from_slice_get chain.backs (c.len-items.result - 1 - i) c.get-back.result.now 0
    c.get-back.ensures)
    ∙ back_high m o laws c.requires.moving.sure c.requires.moving.allowed chain.classes chain.backs
    c.requires.moving.chain i li sized i (let h : i ≤ i = omega arith in h) li in
    let few = c.requires.moving.chain.few (length o - 1 - i) (omega arith) in
    let few_is = ap (λ (n : ℕ). slice_index chain.backs (n - 1 - i)) (sym l)
    ∙ get_or_from_slice_get chain.backs (c.len-items.result - 1 - i) c.get-back.result.now 0
    c.get-back.ensures in
    let got : get_or chain.classes (length o - 1 - i) [] ≡ c.in_ok-with_item.with_item =
    ap (λ (n : ℕ). get_or chain.classes (n - 1 - i) []) (sym l)
    ∙ get_or_from_slice_get chain.classes (c.len-items.result - 1 - i) c.get-start.result.now []
    c.get-start.ensures ∙ sym c.as_slice.ensures ∙ sym c.in_ok-with_item.ensures in
    let start = subst (AreClasses m (stands (take i (remove o i) ++ slice_index o i ∷ []))) got
    (start_with m o laws c.requires.moving.sure c.requires.moving.allowed chain.classes chain.backs
    c.requires.moving.chain i li sized) in
    record {
      room = c.requires.sets.room;
      known = c.requires.sets.known;
      long = refl;
      back = back ∙ ap (back_of m o i) e;
      few = omega arith;
      classes = subst
          (λ (n : ℕ). AreClasses m (stands (take n (remove o i) ++ slice_index o i ∷ []))
          c.in_ok-with_item.with_item) e start;
      sizes = subst (λ (n : ℕ). AreSizes m o i first c.args.sizes.now n i) e c.requires.own;
    }

pub loop-t-preserved : goal.loop-t-preserved
loop-t-preserved c =
    let m = c.args.moving.now.machine.now in
    let o = c.args.moving.now.order.now in
    let chain = c.args.moving.now.chain.now in
    let laws = c.laws_of_levels.ensures.laws in
    let sized = c.laws_of_levels.ensures.sizes in
    let i = c.args.i in
    let l = c.len-items.ensures.len in
    let first = c.args.first in
    let li = c.requires.range.last in
    let t = c.loop-t.t in
    let test = c.loop-t-test.true in
    let j = i - 1 - t in
    let inv = c.loop-t.invariant in
    let h = here (goal.at.loop-t-preserved c).After-with-set in
    let low = h.low in
    let e_old : i - t ≡ j + 1 = omega arith in
    let e_new : j ≡ i - (t + 1) = omega arith in
    let high : first ≤ j = omega arith in
    let next = c.get-next.result.now in
    let whole_is = ap (slice_index chain.backs) (sym l)
    ∙ get_or_from_slice_get chain.backs c.len-items.result c.get-whole.result.now 0
    c.get-whole.ensures in
    let after_is = ap (λ (n : ℕ). slice_index chain.backs (n - j)) (sym l)
    ∙ get_or_from_slice_get chain.backs (c.len-items.result - j) c.get-after.result.now 0
    c.get-after.ensures in
    let got : c.get-without_item.result.now ≡ get_or chain.classes (length o - j) [] =
    sym (ap (λ (n : ℕ). get_or chain.classes (n - j) []) (sym l)
    ∙ get_or_from_slice_get chain.classes (c.len-items.result - j) c.get-without_item.result.now
    [] c.get-without_item.ensures) in
    let own = c.in_ok-own.own in
    let here = c.in_ok-numbers.field-0.level in
    let old_back = c.loop-t.back in
    let front = c.get-whole.result.now - c.get-after.result.now in
    let bare = stands (take j (remove o i)) in
    let with_it = stands (take j (remove o i) ++ slice_index o i ∷ []) in
    let freer = c.in_ok-numbers.field-0.numbers in
    let made = same_classes m (in_set c.with-set.result) with_it freer h.same_with
    c.in_ok-numbers.ensures.numbers in
    let level = same_level m (in_set c.with-set.result) with_it next here h.same_with
    c.in_ok-numbers.ensures.level in
    let own_level = subst (λ (x : ℕ). own ≡ set_level (char m) (sizes_of m) bare x) (sym h.item_is)
    (same_level m (in_set c.first_items-before.result) bare c.get-item.result.now own h.same
    c.in_ok-own.ensures.level) in
    let fronts = front_low m o laws c.requires.moving.sure c.requires.moving.allowed chain.classes chain.backs
    c.requires.moving.chain i li sized j (omega arith) in
    let fronts_is = fronts.1 in
    let step = steps_before m o laws c.requires.moving.sure c.requires.moving.allowed chain.classes chain.backs
    c.requires.moving.chain i li sized j next here old_back own front
    freer low h.next_is (inv.back ∙ ap (back_of m o i) e_old) made level own_level (omega arith) in
    let set = c.set.ensures in
    let long = inv.long in
    let room = c.requires.long in
    let few = inv.few in
    let few_here = c.in_ok-numbers.ensures.few in
    let value = front + own + (old_back + here) in
    let sizes = sizes_set m o c.loop-t.sizes i first j value (i - t) i j i high high (omega arith)
    step.whole_is inv.sizes (λ k a b apart. (omega arith, b)) in
    record {
      room = room_kept (product m.vars) _ _ c.freed_after.auto.seen inv.room;
      known = c.in_ok-own.ensures.known;
      long = ap (λ (xs : List ℕ). length xs) set ∙ length_set c.loop-t.sizes (j - first) value ∙ long;
      back = step.back_is ∙ ap (back_of m o i) e_new;
      few = omega arith;
      classes = subst
          (λ (n : ℕ). AreClasses m (stands (take n (remove o i) ++ slice_index o i ∷ []))
          freer) e_new step.numbers;
      sizes = subst (λ (n : ℕ). AreSizes m o i first c.set.new.self n i) e_new
          (subst (λ (xs : List ℕ). AreSizes m o i first xs j i) (sym set) sizes);
    }

pub freed_after-requires-clause-points : goal.freed_after-requires-clause-points
freed_after-requires-clause-points c = record {
  few = c.requires.moving.few;
  prepared = c.requires.moving.prepared;
}

pub freed_after-requires-clause-room : goal.freed_after-requires-clause-room
freed_after-requires-clause-room c = c.loop-t.invariant.room

pub freed_after-requires-clause-known : goal.freed_after-requires-clause-known
freed_after-requires-clause-known c = c.loop-t.invariant.known

pub level_after-requires-clause-points : goal.level_after-requires-clause-points
level_after-requires-clause-points c = record {
  few = c.requires.moving.few;
  prepared = c.requires.moving.prepared;
}

pub level_after-requires-clause-known : goal.level_after-requires-clause-known
level_after-requires-clause-known c = c.in_ok-numbers.ensures.known

pub freed_after-requires-clause-item : goal.freed_after-requires-clause-item
freed_after-requires-clause-item c =
    (here (goal.at.freed_after-requires-clause-item c).After-with-set).next_low

pub level_after-requires-clause-item : goal.level_after-requires-clause-item
level_after-requires-clause-item c =
    (here (goal.at.level_after-requires-clause-item c).After-with-set).item_low

pub first_items-before-requires-clause-count : goal.first_items-before-requires-clause-count
first_items-before-requires-clause-count c =
    let li = c.requires.range.last in let a = c.loop-t-test.true in omega arith

pub first_items-before-requires-clause-small : goal.first_items-before-requires-clause-small
first_items-before-requires-clause-small c =
    small_items c.args.moving.now.machine.now c.args.moving.now.order.now c.requires.moving.allowed
    c.laws_of_levels.ensures.few

pub with-set-requires : goal.with-set-requires
with-set-requires c =
    let m = c.args.moving.now.machine.now in
    let o = c.args.moving.now.order.now in
    let is = get_or_from_slice_get o c.args.i c.get-item.result.now 0 c.get-item.ensures in
    let low = small_items m o c.requires.moving.allowed c.laws_of_levels.ensures.few c.args.i
    c.requires.range.last in
    omega arith

pub freed_after-requires-clause-next : goal.freed_after-requires-clause-next
freed_after-requires-clause-next c =
    (here (goal.at.freed_after-requires-clause-next c).After-with-set).follows

pub freed_after-requires-clause-classes : goal.freed_after-requires-clause-classes
freed_after-requires-clause-classes c =
    (here (goal.at.freed_after-requires-clause-classes c).After-with-set).too

pub level_after-requires-clause-free : goal.level_after-requires-clause-free
level_after-requires-clause-free c =
    (here (goal.at.level_after-requires-clause-free c).After-with-set).free

pub level_after-requires-clause-classes : goal.level_after-requires-clause-classes
level_after-requires-clause-classes c =
    let m = c.args.moving.now.machine.now in
    let o = c.args.moving.now.order.now in
    let chain = c.args.moving.now.chain.now in
    let laws = c.laws_of_levels.ensures.laws in
    let i = c.args.i in
    let l = c.len-items.ensures.len in
    let j = i - 1 - c.loop-t.t in
    let got = ap (λ (n : ℕ). get_or chain.classes (n - j) []) (sym l)
    ∙ get_or_from_slice_get chain.classes (c.len-items.result - j) c.get-without_item.result.now
    [] c.get-without_item.ensures in
    let h = here (goal.at.level_after-requires-clause-classes c).After-with-set in
    let low = h.low in
    same_classes m (stands (take j (remove o i))) (in_set c.first_items-before.result)
    c.get-without_item.result.now (λ w. sym (h.same w))
    (subst (AreClasses m (stands (take j (remove o i)))) got
    (own_classes m o laws c.requires.moving.sure c.requires.moving.allowed chain.classes chain.backs
    c.requires.moving.chain i c.requires.range.last c.laws_of_levels.ensures.sizes j (omega arith)))

pub overflow_sub-size : goal.overflow_sub-size
overflow_sub-size c =
    let m = c.args.moving.now.machine.now in
    let o = c.args.moving.now.order.now in
    let chain = c.args.moving.now.chain.now in
    let laws = c.laws_of_levels.ensures.laws in
    let sized = c.laws_of_levels.ensures.sizes in
    let i = c.args.i in
    let l = c.len-items.ensures.len in
    let j = i - 1 - c.loop-t.t in
    let li = c.requires.range.last in
    let whole_is = ap (slice_index chain.backs) (sym l)
    ∙ get_or_from_slice_get chain.backs c.len-items.result c.get-whole.result.now 0
    c.get-whole.ensures in
    let after_is = ap (λ (n : ℕ). slice_index chain.backs (n - j)) (sym l)
    ∙ get_or_from_slice_get chain.backs (c.len-items.result - j) c.get-after.result.now 0
    c.get-after.ensures in
    let fronts = front_low m o laws c.requires.moving.sure c.requires.moving.allowed chain.classes chain.backs
    c.requires.moving.chain i li sized j (omega arith) in
    let low = fronts.0 in
    omega arith

pub overflow_add-back : goal.overflow_add-back
overflow_add-back c =
    let n = order_length c.args.moving.now.machine.now c.args.moving.now.order.now c.requires.moving.allowed in
    let items_few = c.laws_of_levels.ensures.few in
    let few = c.loop-t.invariant.few in
    let here = c.in_ok-numbers.ensures.few in
    let test = c.loop-t-test.true in
    let li = c.requires.range.last in
    omega arith

pub overflow_add-size : goal.overflow_add-size
overflow_add-size c =
    let m = c.args.moving.now.machine.now in
    let o = c.args.moving.now.order.now in
    let chain = c.args.moving.now.chain.now in
    let laws = c.laws_of_levels.ensures.laws in
    let sized = c.laws_of_levels.ensures.sizes in
    let i = c.args.i in
    let l = c.len-items.ensures.len in
    let n = order_length m o c.requires.moving.allowed in
    let items_few = c.laws_of_levels.ensures.few in
    let whole_is = ap (slice_index chain.backs) (sym l)
    ∙ get_or_from_slice_get chain.backs c.len-items.result c.get-whole.result.now 0
    c.get-whole.ensures in
    let whole_few =
    c.requires.moving.chain.few (length o) (let h : length o ≤ length o = omega arith in h) in
    let own = c.in_ok-own.ensures.few in
    omega arith

pub overflow_add-size-in-loop-t : goal.overflow_add-size-in-loop-t
overflow_add-size-in-loop-t c =
    let m = c.args.moving.now.machine.now in
    let o = c.args.moving.now.order.now in
    let chain = c.args.moving.now.chain.now in
    let laws = c.laws_of_levels.ensures.laws in
    let sized = c.laws_of_levels.ensures.sizes in
    let i = c.args.i in
    let l = c.len-items.ensures.len in
    let n = order_length m o c.requires.moving.allowed in
    let items_few = c.laws_of_levels.ensures.few in
    let whole_is = ap (slice_index chain.backs) (sym l)
    ∙ get_or_from_slice_get chain.backs c.len-items.result c.get-whole.result.now 0
    c.get-whole.ensures in
    let whole_few =
    c.requires.moving.chain.few (length o) (let h : length o ≤ length o = omega arith in h) in
    let own = c.in_ok-own.ensures.few in
    let few = c.loop-t.invariant.few in
    let here = c.in_ok-numbers.ensures.few in
    let test = c.loop-t-test.true in
    let li = c.requires.range.last in
    omega arith

pub set-requires : goal.set-requires
set-requires c =
    let test = c.loop-t-test.true in
    let long = c.loop-t.invariant.long in
    let room = c.requires.long in
    omega arith

pub returns-clause-each : goal.returns-clause-each
returns-clause-each c =
    let first = c.args.first in
    let i = c.args.i in
    let t = c.loop-t.t in
    let e : i - t ≡ first = let a = c.loop-t-test.false in let b = c.loop-t.auto.t-end in
    let d = c.requires.range.first in omega arith in
    subst (λ (n : ℕ). AreSizes c.args.moving.now.machine.now c.args.moving.now.order.now i first
    c.loop-t.sizes n i) e c.loop-t.invariant.sizes
