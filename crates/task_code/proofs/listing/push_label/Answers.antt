use Rattle.std.proofs.Common.{◌≡◌, arith, codes}
use Rattle.transition_table.specs.NetworkNames.{event_name}
use Rattle.task_code.specs.Listings.{label}
use Rattle.task_code.proofs.Labels.{input_words, state_words, two_texts}
use Rattle.task_code.proofs.listing.push_label.Goals as goal

pub returns-then-k-inputs : goal.returns-then-k-inputs
returns-then-k-inputs c =
    let is : c.from-k.result ≡ c.args.item = c.from-k.ensures in
    two_texts c.args.out.now c.push.new.self c.push_event.new.out (codes "in ")
    (event_name c.args.net.now c.get.result.now) c.in_ok-push.ensures.ok
    c.in_ok-push_event.ensures (label c.args.net.now c.args.machine.now c.args.item)
    (rw (← is) (input_words c.args.net.now c.args.machine.now c.from-k.result c.get.result.now
    c.get.ensures))

pub returns-then-k-inputs-2 : goal.returns-then-k-inputs-2
returns-then-k-inputs-2 c =
    let is = c.from-k.ensures in
    let high = c.if-k-inputs.false in
    let inputs = c.len-inputs.ensures in
    two_texts c.args.out.now c.push-then-k-inputs-2.new.self c.push-then-k-inputs-2-2.new.self
    (codes "st ") c.get-then-k-inputs-2.result.now.name c.in_ok-push-2.ensures.ok
    (rw (← c.bytes.ensures.bytes) c.in_ok-push-3.ensures.ok)
    (label c.args.net.now c.args.machine.now c.args.item)
    (state_words c.args.net.now c.args.machine.now c.args.item _ c.get-then-k-inputs-2.result.now
    c.get-then-k-inputs-2.ensures (omega arith))
