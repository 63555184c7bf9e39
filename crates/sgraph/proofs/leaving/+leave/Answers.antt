use Rattle.std.proofs.Common.{◌≡◌, ◌+◌, ◌≤◌, ℕ, subst, length, slice_get, Some, true, false, arith, Bool}
use Rattle.sgraph.proofs.NextNodes.{left_there, left_more, left_new, one_mark}
use Rattle.sgraph.proofs.leaving.+leave.Goals as goal
use Rattle.sgraph.proofs.leaving.+leave.Goals.{then-not-get+in_ok-leave, else-not-get}

pub loop-code-preserved : goal.loop-code-preserved
loop-code-preserved t c =
    let s = c.args.store.now in
    let n = length c.args.m.now.vars in
    let more = left_more s n c.args.k c.same_value_same_node.ensures.reduced
    c.next_codes-from.result.0 c.next_codes-from.result.1 c.loop-code.code c.child-kid.result
    c.args.left.now c.loop-code.left in
    elim c.if-not-get.branch [
      | then-not-get+in_ok-leave w ↦ record {
        left =
            rw w.left-is
            (more w.leave.new.left c.next_codes-from.ensures c.loop-code.auto.code
            c.loop-code-test.true c.child-kid.ensures.child c.loop-code.invariant.left
            w.in_ok-leave.ensures.left);
        marks = rw w.marks-is (rw w.left-is w.in_ok-leave.ensures.marks);
      }
      | else-not-get w ↦
          let marked : slice_get c.loop-code.marks c.child-kid.result ≡ Some true =
          subst (λ (b : Bool). slice_get c.loop-code.marks c.child-kid.result ≡ Some b)
          w.if-not-get.false
          (subst (λ (i : ℕ). slice_get c.loop-code.marks i ≡ Some c.get-in-loop-code.result.now)
          c.number-in-loop-code.ensures c.get-in-loop-code.ensures) in
          record {
            left =
                rw w.left-is
                (more c.loop-code.left c.next_codes-from.ensures c.loop-code.auto.code
                c.loop-code-test.true c.child-kid.ensures.child c.loop-code.invariant.left
                (left_there s n c.child-kid.result c.loop-code.marks c.loop-code.left
                c.loop-code.invariant.marks marked));
            marks = rw w.marks-is (rw w.left-is c.loop-code.invariant.marks);
          }
    ]

pub returns-clause-left : goal.returns-clause-left
returns-clause-left t c =
    let stop = c.loop-code-test.false in
    let far : c.next_codes-from.result.1 ≤ c.loop-code.code = omega arith in
    let at : slice_get c.args.marks.now c.args.k ≡ Some false =
    subst (λ (b : Bool). slice_get c.args.marks.now c.args.k ≡ Some b) c.if-get.false
    (subst (λ (i : ℕ). slice_get c.args.marks.now i ≡ Some c.get.result.now) c.number.ensures
    c.get.ensures) in
    left_new c.args.store.now (length c.args.m.now.vars) c.args.k c.args.marks.now
    c.next_codes-from.result.0 c.next_codes-from.result.1 c.loop-code.code c.args.left.now
    c.loop-code.left c.push.new.self c.requires.marks at c.next_codes-from.ensures far
    c.loop-code.invariant.left c.in_ok-push.ensures.ok

pub returns-clause-marks : goal.returns-clause-marks
returns-clause-marks t c =
    let node = c.requires.node in
    let long = c.loop-code.invariant.marks.long in
    one_mark (length c.args.store.now.nodes + 2) c.args.k c.loop-code.marks c.set.new.self c.loop-code.left
    c.push.new.self c.loop-code.invariant.marks (omega arith)
    (rw (← c.number-2.ensures) c.set.ensures) c.in_ok-push.ensures.ok
