use Rattle.std.proofs.Common.{◌≡◌, ◌∙◌, ◌<◌, ◌||◌, ◌==◌, ℕ, List, length, take, slice_index, arith, sym, ap}
use Rattle.std.proofs.lemmas.List.{take_more}
use Rattle.std.proofs.lemmas.Option.{get_or_from_slice_get}
use Rattle.decision_diagram.specs.Sets.{stands}
use Rattle.order_sift.specs.inner.Known.{in_set}
use Rattle.order_sift.proofs.ItemSets.{in_none, one_more}
use Rattle.order_sift.proofs.MovedLevels.{stands_more}
use Rattle.order_sift.proofs.sets.first_items.Goals as goal

pub loop-k-init : goal.loop-k-init
loop-k-init c w = ap (λ (set : ℕ). in_set set w) c.empty-set.ensures ∙ in_none w

pub loop-k-preserved : goal.loop-k-preserved
loop-k-preserved c w =
    let o = c.args.order.now in
    let k = c.loop-k.k in
    let low : k < length o = let a = c.loop-k-test.true in let b = c.requires.count in
    omega arith in
    let item = c.get.result.now in
    let is = get_or_from_slice_get o k item 0 c.get.ensures in
    one_more c.loop-k.set c.with-set.result item c.with-set.ensures w
    ∙ ap (λ b. b || item == w) (c.loop-k.invariant w)
    ∙ ap (λ (x : ℕ). stands (take k o) w || x == w) (sym is)
    ∙ sym (stands_more (take k o) (slice_index o k) w)
    ∙ ap (λ (xs : List ℕ). stands xs w) (sym (take_more o k 0 low))

pub with-set-requires : goal.with-set-requires
with-set-requires c =
    let o = c.args.order.now in
    let k = c.loop-k.k in
    let low : k < length o = let a = c.loop-k-test.true in let b = c.requires.count in
    omega arith in
    let is = get_or_from_slice_get o k c.get.result.now 0 c.get.ensures in
    let small = c.requires.small k low in
    omega arith

pub returns : goal.returns
returns c w =
    let e : c.loop-k.k ≡ c.args.count = let a = c.loop-k-test.false in
    let b = c.loop-k.auto.k-end in omega arith in
    c.loop-k.invariant w ∙ ap (λ (n : ℕ). stands (take n c.args.order.now) w) e
