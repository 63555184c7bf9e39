use Rattle.std.proofs.Common.{◌≡◌, ◌∙◌, ◌+◌, ◌-◌, ◌<◌, ℕ, suc, length, refl, arith, ap, sym, subst}
use Rattle.domains.specs.Tables.{product}
use Rattle.order_sift.specs.Turns.{next_item}
use Rattle.order_sift.specs.inner.Turns.{ComesTo}
use Rattle.order_sift.proofs.PairKeys.{room_kept}
use Rattle.order_sift.proofs.SiftRules.{after_standing, after_moving}
use Rattle.order_sift.proofs.turns.turn.Goals as goal
use Rattle.transition_table.proofs.MachineCounts.{order_length}

pub loop-k-init : goal.loop-k-init
loop-k-init c =
    let order = c.args.at.now.order in
    let all = c.var_count.result + c.result_count.result in
    let n = order_length c.args.sifting.now.machine.now order c.requires.at.counted.allowed in
    let vars = c.var_count.ensures.count in
    let both = c.var_count.ensures.results in
    let results = c.result_count.ensures.count in
    let first = c.requires.first in
    let long : length order ≡ all = omega arith in
    record {
      room = c.requires.room;
      at = c.requires.at;
      count = refl;
      long = long;
      within = omega arith;
      comes = subst (λ (left : ℕ). ComesTo c.args.sifting.now.machine.now order c.args.first
          (length order) order c.args.first left) (omega arith) (λ last sifts. sifts);
    }

pub sift_item-requires-clause-item : goal.sift_item-requires-clause-item
sift_item-requires-clause-item c =
    let long = c.loop-k.invariant.long in
    let low = c.loop-k.invariant.within in
    omega arith

pub loop-k-preserved : goal.loop-k-preserved
loop-k-preserved c =
    let m = c.args.sifting.now.machine.now in
    let inv = c.loop-k.invariant in
    let one = c.in_ok-sift_item.ensures in
    let old = c.args.at.now.order in
    let new = c.sift_item.new.at.order in
    let item = c.loop-k.item in
    let all = c.var_count.result + c.result_count.result in
    let below : c.loop-k._k < all = c.loop-k-test.true in
    let more : all - c.loop-k._k ≡ suc (all - (c.loop-k._k + 1)) = omega arith in
    let stood = one.stays c.if-at-before.false in
    let next = c.item_after-item.ensures in
    record {
      room = room_kept (product m.vars) _ _ c.sift_item.auto.seen inv.room;
      at = one.at;
      count = c.if-at-before.false ∙ inv.count;
      long = ap length stood.0 ∙ inv.long;
      within = next.within;
      comes = after_standing m old c.loop-k.at.order new c.args.first (length old) item
          c.item_after-item.result (all - c.loop-k._k) (all - (c.loop-k._k + 1)) inv.comes more
          stood.0 (next.next ∙ ap (λ (n : ℕ). next_item n item) (sym inv.long)) stood.1;
    }

pub returns-then-at-before-clause-all_stood : goal.returns-then-at-before-clause-all_stood
returns-then-at-before-clause-all_stood c same =
    absurd (c.if-at-before.true (same ∙ sym c.loop-k.invariant.count))

pub returns-then-at-before-clause-moved : goal.returns-then-at-before-clause-moved
returns-then-at-before-clause-moved c differ =
    let m = c.args.sifting.now.machine.now in
    let inv = c.loop-k.invariant in
    let one = c.in_ok-sift_item.ensures in
    let old = c.args.at.now.order in
    let mid = c.loop-k.at.order in
    let new = c.sift_item.new.at.order in
    let item = c.loop-k.item in
    let all = c.var_count.result + c.result_count.result in
    let below : c.loop-k._k < all = c.loop-k-test.true in
    let more : all - c.loop-k._k ≡ suc (all - (c.loop-k._k + 1)) = omega arith in
    let same : length new ≡ length mid =
    one.at.counted.allowed.long ∙ sym inv.at.counted.allowed.long in
    after_moving m old mid new c.args.first (length old) item c.item_after-item.result
    (all - c.loop-k._k) (all - (c.loop-k._k + 1)) inv.comes more (one.moves c.if-at-before.true)
    same (c.item_after-item.ensures.next ∙ ap (λ (n : ℕ). next_item n item) (sym inv.long))

pub returns-then-at-before-clause-next : goal.returns-then-at-before-clause-next
returns-then-at-before-clause-next c =
    let one = c.in_ok-sift_item.ensures.at.counted.allowed.long in
    let mid = c.loop-k.invariant.at.counted.allowed.long in
    let long = c.loop-k.invariant.long in
    let low = c.item_after-item.ensures.within in
    omega arith

pub returns-clause-all_stood : goal.returns-clause-all_stood
returns-clause-all_stood c same =
    let old = c.args.at.now.order in
    let none = c.loop-k-test.false in
    subst (λ (left : ℕ). ComesTo c.args.sifting.now.machine.now old c.args.first (length old)
    c.loop-k.at.order c.loop-k.item left) (omega arith) c.loop-k.invariant.comes

pub returns-clause-moved : goal.returns-clause-moved
returns-clause-moved c differ = absurd (differ c.loop-k.invariant.count)
