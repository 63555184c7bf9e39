use Rattle.std.proofs.Common.{◌∙◌, arith}
use Rattle.polis_base.proofs.SmallSets.{with_same, with_others}
use Rattle.run_shuffle.proofs.ReceiverSets.{one_receiver_more, receiver_below}
use Rattle.run_shuffle.proofs.emitted.with_receivers.Goals as goal

pub with-all-requires : goal.with-all-requires
with-all-requires c =
    let net = c.args.net.now in
    let below =
    receiver_below net c.args.event c.get.result.now c.loop-i.i c.get-in-loop-i.result.now
    c.get.ensures c.get-in-loop-i.ensures in
    let few = net.few_machines in
    omega (arith, below, few)

pub loop-i-preserved : goal.loop-i-preserved
loop-i-preserved c =
    let net = c.args.net.now in
    let to = c.get-in-loop-i.result.now in
    let below =
    receiver_below net c.args.event c.get.result.now c.loop-i.i to c.get.ensures
    c.get-in-loop-i.ensures in
    record {
      machines = λ m low.
          one_receiver_more c.get.result.now.receivers c.loop-i.i to c.args.set c.loop-i.all
          c.with-all.result m c.get-in-loop-i.ensures (c.loop-i.invariant.machines m low)
          (with_same c.with-all.result c.loop-i.all to c.with-all.ensures)
          (with_others c.with-all.result c.loop-i.all to c.with-all.ensures);
      others = λ m past.
          with_others c.with-all.result c.loop-i.all to c.with-all.ensures m
          (λ e. absurd (omega (arith, below, past, e)))
          ∙ c.loop-i.invariant.others m past;
    }
