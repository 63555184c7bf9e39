use Rattle.std.proofs.Common.{◌∙◌, ℕ, refl, ap, arith, sym, subst}
use Rattle.domains.specs.Tables.{product}
use Rattle.order_sift.specs.Moves.{moved}
use Rattle.order_sift.specs.inner.Turns.{IsCounted}
use Rattle.order_sift.proofs.PairKeys.{room_kept}
use Rattle.order_sift.proofs.turns.sift_item.Goals.{After-place_of-i}
use Rattle.order_sift.proofs.turns.sift_item.Goals as goal

-- the order to which the item moves, by the item's place as it was read
counted : (c : After-place_of-i)
    → IsCounted c.args.sifting.now.machine.now
    (moved c.args.at.now.order c.place_of-i.result c.in_ok-best.best.place) c.in_ok-best.best.count
counted c =
    let best = c.in_ok-best.best in
    subst (λ (i : ℕ). IsCounted c.args.sifting.now.machine.now
    (moved c.args.at.now.order i best.place) best.count) (sym c.place_of-i.ensures.place)
    c.in_ok-best.ensures.counted

pub move_to-requires-clause-sets : goal.move_to-requires-clause-sets
move_to-requires-clause-sets c = record {
  room = room_kept (product c.args.sifting.now.machine.now.vars) _ _ c.best_place.auto.seen
      c.requires.room;
  known = c.in_ok-best.ensures.known;
}

pub move_to-requires-clause-j : goal.move_to-requires-clause-j
move_to-requires-clause-j c = c.in_ok-best.ensures.within

pub move_to-requires-clause-counted : goal.move_to-requires-clause-counted
move_to-requires-clause-counted c =
    counted (goal.at.move_to-requires-clause-counted c).After-place_of-i

pub returns-then-best-at-clause-at : goal.returns-then-best-at-clause-at
returns-then-best-at-clause-at c =
    let at = c.requires.at in
    record { known = c.in_ok-best.ensures.known; counted = at.counted; chain = at.chain }

pub returns-then-best-at-clause-stays : goal.returns-then-best-at-clause-stays
returns-then-best-at-clause-stays c same = (refl, c.in_ok-best.ensures.least c.if-best-at.true)

pub returns-then-best-at-clause-moves : goal.returns-then-best-at-clause-moves
returns-then-best-at-clause-moves c differ = absurd (differ refl)

pub returns-clause-at : goal.returns-clause-at
returns-clause-at c = c.in_ok-move_to.ensures.at

pub returns-clause-falls : goal.returns-clause-falls
returns-clause-falls c =
    let is = c.in_ok-move_to.ensures.count in
    let less = c.if-best-at.false in
    omega arith

pub returns-clause-stays : goal.returns-clause-stays
returns-clause-stays c same =
    let is = c.in_ok-move_to.ensures.count in
    let less = c.if-best-at.false in
    absurd (omega arith)

pub returns-clause-moves : goal.returns-clause-moves
returns-clause-moves c differ =
    let order = c.args.at.now.order in
    let j = c.in_ok-best.best.place in (
      j,
      c.in_ok-best.ensures.better c.if-best-at.false,
      c.in_ok-move_to.ensures.order ∙ ap (λ (i : ℕ). moved order i j) c.place_of-i.ensures.place,
    )
