use Rattle.std.proofs.Common.{◌≡◌, ◌<◌, subst, ap, map, length, slice_get, slice_index, Some, true, false, refl, arith, List, ℕ, Bool}
use Rattle.std.proofs.lemmas.List.{length-map}
use Rattle.sgraph.specs.Graphs.{kids_at}
use Rattle.sgraph_opt.specs.inner.Renumbering.{replaced}
use Rattle.sgraph.proofs.NextNodes.{one_mark}
use Rattle.sgraph_opt.proofs.LeftAfter.{left_there, left_new}
use Rattle.sgraph_opt.proofs.Replaced.{long_replaced, all_kids, next_left, rep_inside}
use Rattle.sgraph_opt.proofs.Standing.{rises}
use Rattle.sgraph_opt.proofs.numbering.+leave.Goals as goal
use Rattle.sgraph_opt.proofs.numbering.+leave.Goals.{then-not-get+in_ok-leave, else-not-get}

pub loop-kid-preserved : goal.loop-kid-preserved
loop-kid-preserved t c =
    let g = c.args.g.now in
    let reps = c.args.reps.now in
    let kids = c.kids-kid-items.result.now in
    let v = c.get-2.result.now in
    let i = c.loop-kid.kid-index in
    let rep = c.get-rep.result.now in
    let test = c.loop-kid-test.true in
    let low : c.loop-kid.kid-index < length c.kids-kid-items.result.now = omega arith in
    let next = λ (new : List ℕ). next_left g reps c.args.k v kids c.get-2.ensures
    c.kids-kid-items.ensures c.args.left.now c.loop-kid.left new i rep low c.get-rep.ensures
    c.loop-kid.invariant.left in
    elim c.if-not-get.branch [
      | then-not-get+in_ok-leave w ↦ record {
        left = rw w.left-is (next w.leave.new.left w.in_ok-leave.ensures.left);
        marks = rw w.marks-is (rw w.left-is w.in_ok-leave.ensures.marks);
      }
      | else-not-get w ↦
          let marked : slice_get c.loop-kid.marks rep ≡ Some true =
          subst (λ (b : Bool). slice_get c.loop-kid.marks rep ≡ Some b)
          w.if-not-get.false c.get-in-loop-kid.ensures in
          let long = long_replaced g reps in
          let inside = (rep_inside g reps c.args.k v kids c.get-2.ensures c.kids-kid-items.ensures
          c.requires.graph c.requires.stands i rep low c.get-rep.ensures).1 in
          record {
            left = rw w.left-is (next c.loop-kid.left
                (left_there (replaced g reps) rep c.loop-kid.marks c.loop-kid.left (omega arith)
                c.loop-kid.invariant.marks marked));
            marks = rw w.marks-is (rw w.left-is c.loop-kid.invariant.marks);
          }
    ]

pub get-requires-in-loop-kid : goal.get-requires-in-loop-kid
get-requires-in-loop-kid t c =
    let g = c.args.g.now in
    let reps = c.args.reps.now in
    let kids = c.kids-kid-items.result.now in
    let test = c.loop-kid-test.true in
    let inside = (rep_inside g reps c.args.k c.get-2.result.now kids c.get-2.ensures
    c.kids-kid-items.ensures c.requires.graph c.requires.stands c.loop-kid.kid-index
    c.get-rep.result.now (omega arith) c.get-rep.ensures).1 in
    let all = long_replaced g reps in
    let long = c.loop-kid.invariant.marks.long in
    omega arith

pub leave-requires : goal.leave-requires
leave-requires t c =
    let kids = c.kids-kid-items.result.now in
    let test = c.loop-kid-test.true in
    let r = rep_inside c.args.g.now c.args.reps.now c.args.k c.get-2.result.now kids
    c.get-2.ensures c.kids-kid-items.ensures c.requires.graph c.requires.stands
    c.loop-kid.kid-index c.get-rep.result.now (omega arith) c.get-rep.ensures in
    let up = r.0 in
    let inside = r.1 in
    let d = c.decreases in (
      omega arith,
      (c.requires.graph, (c.requires.stands, (inside, c.loop-kid.invariant.marks))),
    )

pub returns-clause-left : goal.returns-clause-left
returns-clause-left t c =
    let g = c.args.g.now in
    let reps = c.args.reps.now in
    let kids = c.kids-kid-items.result.now in
    let long = length-map kids (slice_index reps) in
    let same : length (map (slice_index reps) kids) ≡ length (kids_at (replaced g reps) c.args.k) =
    ap (λ (xs : List ℕ). length xs) (all_kids g reps c.args.k c.get-2.result.now kids
    c.get-2.ensures c.kids-kid-items.ensures) in
    let all = long_replaced g reps in
    let vertex = c.requires.vertex in
    let stop = c.loop-kid-test.false in
    let at : slice_get c.args.marks.now c.args.k ≡ Some false =
    subst (λ (b : Bool). slice_get c.args.marks.now c.args.k ≡ Some b) c.if-get.false
    c.get.ensures in
    left_new (replaced g reps) (rises g c.requires.graph reps c.requires.stands) c.args.k
    c.args.marks.now (kids_at (replaced g reps) c.args.k) c.args.left.now c.loop-kid.left
    c.push.new.self c.loop-kid.kid-index (omega arith) c.requires.marks at refl (omega arith)
    c.loop-kid.invariant.left c.in_ok-push.ensures.ok

pub returns-clause-marks : goal.returns-clause-marks
returns-clause-marks t c =
    let vertex = c.requires.vertex in
    let all = long_replaced c.args.g.now c.args.reps.now in
    let long = c.loop-kid.invariant.marks.long in
    one_mark (length (replaced c.args.g.now c.args.reps.now)) c.args.k c.loop-kid.marks
    c.set.new.self c.loop-kid.left c.push.new.self c.loop-kid.invariant.marks (omega arith)
    c.set.ensures c.in_ok-push.ensures.ok
