use Rattle.std.proofs.Common.{◌≡◌, ◌≢◌, arith}
use Rattle.domains.specs.Tables.{product}
use Rattle.order_sift.specs.Turns.{AllStood}
use Rattle.order_sift.proofs.PairKeys.{room_kept}
use Rattle.order_sift.proofs.turns.sift_items.Goals as goal

pub loop-first-init : goal.loop-first-init
loop-first-init c = record {
  room = c.requires.room;
  at = c.requires.at;
  next = c.requires.some;
  comes = λ last sifts. sifts;
}

pub loop-first-preserved : goal.loop-first-preserved
loop-first-preserved c =
    let m = c.args.sifting.now.machine.now in
    let inv = c.loop-first.invariant in
    let made = c.in_ok-first.ensures in
    let fell : c.turn.new.at.count ≢ c.loop-first.at.count = λ same. omega arith in
    record {
      room = room_kept (product m.vars) _ _ c.turn.auto.seen inv.room;
      at = made.at;
      next = made.next;
      comes = λ last sifts. inv.comes last (made.moved fell last sifts);
    }

pub returns-then-at-before-clause-sifts : goal.returns-then-at-before-clause-sifts
returns-then-at-before-clause-sifts c =
    let last = c.turn.new.at.order in
    let stood : c.turn.new.at.count ≡ c.loop-first.at.count = omega arith in
    c.loop-first.invariant.comes last
    (c.in_ok-first.ensures.all_stood stood last (AllStood c.in_ok-first.first))
