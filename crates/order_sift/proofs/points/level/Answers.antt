use Rattle.std.proofs.Common.{◌≡◌, ◌∙◌, ◌+◌, ◌<◌, ◌||◌, ℕ, refl, false, cond, length, map, take, slice_index, arith, sym, ap, eqb}
use Rattle.std.specs.List.{list_any}
use Rattle.std.proofs.lemmas.List.{length-replicate}
use Rattle.order_sift.specs.inner.Classes.{differing}
use Rattle.order_sift.proofs.DifferingNumbers.{marked_more, differing_more, any_more}
use Rattle.order_sift.proofs.points.level.Goals as goal
use Rattle.polis_base.proofs.Places.{nowhere_set}

pub loop-i-init : goal.loop-i-init
loop-i-init c = record {
  count = refl;
  few = omega arith;
  room = length-replicate 1024 false;
  met = λ n ln. nowhere_set 1024 n;
}

pub loop-i-preserved : goal.loop-i-preserved
loop-i-preserved c =
    let classes = c.args.classes.now in
    let marks = c.args.marks.now in
    let i = c.loop-i.i in
    let li : i < length marks = c.loop-i-test.true in
    let inv = c.loop-i.invariant in
    let few = inv.few in
    let x = slice_index classes (slice_index marks i) in
    let met = map (slice_index classes) (take i marks) in
    let wide = c.requires.few in
    let within = c.requires.below (slice_index marks i) (c.requires.marks i li) in
    let low : x < 1024 = omega arith in
    let is = marked_more classes marks i li in
    let new = c.meet-count.ensures.counts ∙ ap (λ b. cond {A = ℕ} b 0 1) (inv.met x low) in
    let more : differing (map (slice_index classes) (take (i + 1) marks))
    ≡ differing met + cond {A = ℕ} (list_any (λ k. eqb k x) met) 0 1 =
    ap differing is ∙ differing_more x met in
    let count = inv.count in
    let one = c.meet-count.ensures.few in
    let room = inv.room in
    record {
      count = omega arith;
      few = omega arith;
      room = c.meet-count.auto.met ∙ room;
      met = λ n ln. c.meet-count.ensures.met n (omega arith) ∙ ap (λ b. b || eqb x n) (inv.met n ln)
          ∙ sym (ap (list_any (λ k. eqb k n)) is ∙ any_more n x met);
    }
