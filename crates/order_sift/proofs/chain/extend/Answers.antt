use Rattle.std.proofs.Common.{◌≡◌, ◌∙◌, ◌-◌, ◌+◌, ◌<◌, ℕ, List, Some, length, slice_get, slice_index, take, arith, refl, sym, ap, subst, []}
use Rattle.std.proofs.lemmas.Option.{get_or_from_slice_get}
use Rattle.transition_table.specs.declared.machine.Machine.{Machine}
use Rattle.transition_table.specs.Orders.{Allowed}
use Rattle.transition_table.specs.Transitions.{IsDeterministic}
use Rattle.decision_diagram.specs.Sets.{stands}
use Rattle.order_sift.specs.inner.Below.{BelowOrders}
use Rattle.order_sift.specs.inner.Chains.{AreChain}
use Rattle.order_sift.specs.inner.Classes.{AreClasses, IsNextItem, fixed_too}
use Rattle.order_sift.specs.inner.Known.{in_set}
use Rattle.order_sift.proofs.ChainSteps.{chain_next, chain_more}
use Rattle.order_sift.proofs.ItemSets.{same_level, same_too, small_items}
use Rattle.order_sift.proofs.MovedLevels.{same_classes, same_next}
use Rattle.order_sift.proofs.chain.extend.Goals.{After-first_items-set}
use Rattle.order_sift.proofs.chain.extend.Goals as goal
use Rattle.transition_table.proofs.MachineCounts.{order_length}

-- the item that is freed next, and the set of those before it
record Frees (m : Machine) (o : List ℕ) (t set item : ℕ) (old : List ℕ) : Type 0 where
  at : slice_index o (length o - 1 - t) ≡ item
  below : item < length m.vars + length m.results
  same : (w : ℕ) → in_set set w ≡ stands (take (length o - 1 - t) o) w
  next : IsNextItem m (in_set set) item
  too : AreClasses m (fixed_too (in_set set) item) old

frees : (m : Machine) (o : List ℕ) (laws : BelowOrders) (sure : IsDeterministic m)
    (allowed : Allowed m o) (t n set item : ℕ) (classes : List (List ℕ)) (backs old : List ℕ)
    → n ≡ length o → t < length o → slice_get o (n - 1 - t) ≡ Some item
    → ((w : ℕ) → in_set set w ≡ stands (take (n - 1 - t) o) w) → slice_get classes t ≡ Some old
    → AreChain m o t classes backs → Frees m o t set item old
frees m o laws sure allowed t n set item classes backs old l low got is kept chain =
    let k = length o - 1 - t in
    let at : slice_index o k ≡ item = ap (λ (n : ℕ). slice_index o (n - 1 - t)) (sym l)
    ∙ get_or_from_slice_get o (n - 1 - t) item 0 got in
    let same : (w : ℕ) → in_set set w ≡ stands (take k o) w =
    λ w. is w ∙ ap (λ (n : ℕ). stands (take (n - 1 - t) o) w) l in
    let follows = chain_next m o laws sure allowed t item classes backs low at chain in
    let many = order_length m o allowed in
    let inside = allowed.permutation.below k (omega arith) in
    record {
      at = at;
      below = omega arith;
      same = same;
      next = same_next m (stands (take k o)) (in_set set) item item (λ w. sym (same w)) refl
          follows.next;
      too = same_too m (stands (take k o)) (in_set set) item old (λ w. sym (same w))
          (subst (AreClasses m (fixed_too (stands (take k o)) item))
          (get_or_from_slice_get classes t old [] kept) follows.too);
    }

here : (c : After-first_items-set)
    → Frees c.args.m.now c.args.order.now c.args.t c.first_items-set.result c.get-item.result.now
    c.get-old.result.now
here c =
    frees c.args.m.now c.args.order.now c.laws_of_levels.ensures.laws c.requires.sure
    c.requires.allowed c.args.t c.len-items.result c.first_items-set.result
    c.get-item.result.now c.args.chain.now.classes c.args.chain.now.backs c.get-old.result.now
    c.len-items.ensures.len c.requires.t c.get-item.ensures c.first_items-set.ensures
    c.get-old.ensures c.requires.chain

pub first_items-set-requires-clause-count : goal.first_items-set-requires-clause-count
first_items-set-requires-clause-count c = let l = c.len-items.ensures.len in omega arith

pub first_items-set-requires-clause-small : goal.first_items-set-requires-clause-small
first_items-set-requires-clause-small c =
    small_items c.args.m.now c.args.order.now c.requires.allowed c.laws_of_levels.ensures.few

pub freed_after-requires-clause-next : goal.freed_after-requires-clause-next
freed_after-requires-clause-next c =
    (here (goal.at.freed_after-requires-clause-next c).After-first_items-set).next

pub freed_after-requires-clause-classes : goal.freed_after-requires-clause-classes
freed_after-requires-clause-classes c =
    (here (goal.at.freed_after-requires-clause-classes c).After-first_items-set).too

pub freed_after-requires-clause-item : goal.freed_after-requires-clause-item
freed_after-requires-clause-item c =
    (here (goal.at.freed_after-requires-clause-item c).After-first_items-set).below

pub overflow_add-back : goal.overflow_add-back
overflow_add-back c =
    let t = c.args.t in
    let l = c.requires.t in
    let n = order_length c.args.m.now c.args.order.now c.requires.allowed in
    let few = c.laws_of_levels.ensures.few in
    let last = get_or_from_slice_get c.args.chain.now.backs t c.get-last.result.now 0
    c.get-last.ensures in
    let a = c.requires.chain.few t (omega arith) in
    let b = c.in_ok-numbers.ensures.few in
    omega arith

pub returns-clause-chain : goal.returns-clause-chain
returns-clause-chain c =
    let m = c.args.m.now in
    let o = c.args.order.now in
    let t = c.args.t in
    let old = c.args.chain.now in
    let f = here (goal.at.returns-clause-chain c).After-first_items-set in
    let set = in_set c.first_items-set.result in
    let before = stands (take (length o - 1 - t) o) in
    let made = c.in_ok-numbers.field-0.numbers in
    let level = c.in_ok-numbers.field-0.level in
    let last = get_or_from_slice_get old.backs t c.get-last.result.now 0 c.get-last.ensures in
    chain_more m o c.laws_of_levels.ensures.laws c.requires.sure c.requires.allowed t
    c.get-item.result.now old.classes _ old.backs _ made level (level + c.get-last.result.now)
    c.requires.t f.at c.requires.chain
    (same_classes m set before made f.same c.in_ok-numbers.ensures.numbers)
    (same_level m set before c.get-item.result.now level f.same c.in_ok-numbers.ensures.level)
    c.in_ok-numbers.ensures.few (ap (λ (k : ℕ). level + k) (sym last)) c.in_ok-push.ensures.ok
    c.in_ok-push-2.ensures.ok
