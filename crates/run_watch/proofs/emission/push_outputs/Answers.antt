use Rattle.std.proofs.Common.{ℕ, List, ◌++◌, slice_get, ap, ◌∙◌}
use Rattle.journals.specs.Journals.{emitted, outputs_of}
use Rattle.journals.proofs.Emitted.{output_is_event, outputs_of_machine}
use Rattle.run_watch.specs.inner.Emissions.{going_out}
use Rattle.run_watch.proofs.Placed.{one_output_more}
use Rattle.run_watch.proofs.emission.push_outputs.Goals as goal

pub push_output-requires : goal.push_output-requires
push_output-requires c =
    output_is_event c.args.net.now c.args.m c.get-machine.result.now c.loop-k.k
    c.get-event.result.now c.get-machine.ensures c.get-event.ensures

pub loop-k-preserved : goal.loop-k-preserved
loop-k-preserved c =
    let net = c.args.net.now in
    let events : List ℕ = outputs_of net c.args.m in
    let codes : List ℕ = c.args.codes.now in
    let same = outputs_of_machine net c.args.m c.get-machine.result.now c.get-machine.ensures in
    one_output_more net c.args.place events codes c.loop-k.k c.get-event.result.now
    c.get-code.result.now c.loop-k.into c.push_output.new.into
    (c.args.into.now ++ going_out net c.args.place (emitted events codes))
    (ap (λ (l : List ℕ). slice_get l c.loop-k.k) same ∙ c.get-event.ensures) c.get-code.ensures
    c.in_ok-push_output.ensures c.loop-k.invariant
