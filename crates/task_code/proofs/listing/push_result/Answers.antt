use Rattle.std.proofs.Common.{◌≡◌, arith, codes}
use Rattle.transition_table.specs.NetworkNames.{event_name}
use Rattle.task_code.specs.inner.Labels.{result_label}
use Rattle.task_code.proofs.Labels.{go_words, to_words, out_words, no_words, two_texts, no_text}
use Rattle.task_code.proofs.listing.push_result.Goals as goal

pub returns-then-y-eq0 : goal.returns-then-y-eq0
returns-then-y-eq0 c = let zero_is : c.args.y ≡ 0 = c.if-y-eq0.true in
    rw (zero_is, go_words c.args.net.now c.args.machine.now) c.push.ensures.ok

pub returns-then-k-states : goal.returns-then-k-states
returns-then-k-states c =
    let is = c.from-k.ensures in
    let some = c.if-y-eq0.false in
    two_texts c.args.out.now c.push-then-k-states.new.self c.push-then-k-states-2.new.self
    (codes "to ") c.get.result.now.name c.in_ok-push.ensures.ok
    (rw (← c.bytes.ensures.bytes) c.in_ok-push-2.ensures.ok)
    (result_label c.args.net.now c.args.machine.now c.args.y)
    (to_words c.args.net.now c.args.machine.now c.args.y _ c.get.result.now c.get.ensures
    (omega arith))

pub returns-then-k-states-2 : goal.returns-then-k-states-2
returns-then-k-states-2 c =
    let is = c.from-k.ensures in
    let some = c.if-y-eq0.false in
    let high = c.if-k-states.false in
    let states = c.len-states.ensures in
    two_texts c.args.out.now c.push-then-k-states-2-2.new.self c.push_event.new.out (codes "out ")
    (event_name c.args.net.now c.get-then-k-states-2.result.now) c.in_ok-push-3.ensures.ok
    c.in_ok-push_event.ensures (result_label c.args.net.now c.args.machine.now c.args.y)
    (out_words c.args.net.now c.args.machine.now c.args.y _ c.get-then-k-states-2.result.now
    c.get-then-k-states-2.ensures (omega arith))

pub returns : goal.returns
returns c =
    let is = c.from-k.ensures in
    let some = c.if-y-eq0.false in
    let high = c.if-k-states.false in
    let higher = c.if-k-states-2.false in
    let states = c.len-states.ensures in
    let outputs = c.len-outputs.ensures in
    no_text c.args.out.now (result_label c.args.net.now c.args.machine.now c.args.y)
    (no_words c.args.net.now c.args.machine.now c.args.y (omega arith))
