use Rattle.std.proofs.Common.{◌≡◌, ℕ, ◌<◌, List, length, slice_get, Some, ap, ◌∙◌, arith}
use Rattle.journals.specs.Journals.{outputs_of}
use Rattle.journals.proofs.Emitted.{output_is_event, outputs_of_machine}
use Rattle.run_shuffle.proofs.ReceiverSets.{emits_none, emits_one}
use Rattle.run_shuffle.proofs.emitted.with_emitted.Goals as goal
use Rattle.run_shuffle.proofs.emitted.with_emitted.Goals.{then-get-gt0, else-get-gt0}

pub with_receivers-all-requires : goal.with_receivers-all-requires
with_receivers-all-requires c =
    output_is_event c.args.net.now c.args.machine c.get.result.now c.loop-k.k
    c.get-then-get-gt0.result.now c.get.ensures c.get-then-get-gt0.ensures

pub loop-k-preserved : goal.loop-k-preserved
loop-k-preserved c =
    let net = c.args.net.now in
    let outputs : List ℕ = outputs_of net c.args.machine in
    let codes : List ℕ = c.args.codes.now in
    let k = c.loop-k.k in
    let code = c.get-in-loop-k.result.now in
    let own = outputs_of_machine net c.args.machine c.get.result.now c.get.ensures in
    elim c.if-get-gt0.branch [
      | then-get-gt0 w ↦
          let event = w.get-then-get-gt0.result.now in
          let at : slice_get outputs k ≡ Some event =
          ap (λ (l : List ℕ). slice_get l k) own ∙ w.get-then-get-gt0.ensures in
          let below =
          output_is_event net c.args.machine c.get.result.now k event c.get.ensures
          w.get-then-get-gt0.ensures in
          rw w.all-is (record {
            machines = λ m low.
                emits_one net outputs codes k event code c.args.set c.loop-k.all
                w.with_receivers-all.result m at c.get-in-loop-k.ensures w.if-get-gt0.true
                (c.loop-k.invariant.machines m low)
                (w.with_receivers-all.ensures.machines m low);
            others = λ m past.
                w.with_receivers-all.ensures.others m past ∙ c.loop-k.invariant.others m past;
          })
      | else-get-gt0 w ↦
          let test = c.loop-k-test.true in
          let len = c.len-k-end.ensures in
          let long : length outputs ≡ length c.get.result.now.outputs = ap length own in
          let within : k < length outputs = omega (arith, test, len, long) in
          rw w.all-is (record {
            machines = λ m low.
                emits_none net outputs codes k code c.args.set c.loop-k.all m within
                c.get-in-loop-k.ensures w.if-get-gt0.false (c.loop-k.invariant.machines m low);
            others = c.loop-k.invariant.others;
          })
    ]
