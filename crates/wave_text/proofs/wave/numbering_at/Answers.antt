use Rattle.std.proofs.Common.{ℕ, ◌+◌, List, length, sym, ap, ◌∙◌, arith}
use Rattle.std.specs.Prelude.{filter}
use Rattle.std.proofs.lemmas.List.{length-map}
use Rattle.journals.specs.Journals.{outputs_of}
use Rattle.wave_text.specs.inner.Changing.{out_signals}
use Rattle.wave_text.specs.Signals.{has_values, out_events, first_number}
use Rattle.wave_text.specs.declared.signal.Signal.TheVariants.{Emission, Value}
use Rattle.journals.proofs.Emitted.{outputs_of_machine}
use Rattle.wave_text.proofs.MomentSteps.{all_within}
use Rattle.wave_text.proofs.wave.numbering_at.Goals as goal

pub out_signals_of-requires : goal.out_signals_of-requires
out_signals_of-requires c =
    let net = c.args.net.now in
    let within = all_within net in
    let many = length-map (out_events net) Emission in
    let values = length-map (filter (has_values net) (out_events net)) Value in
    let events = ap length (c.as_slice.ensures ∙ c.requires.events) in
    let next = c.requires.next in
    let room = c.requires.room in
    omega arith

pub overflow_add-n : goal.overflow_add-n
overflow_add-n c =
    let net = c.args.net.now in
    let within = all_within net in
    let many = length-map (out_events net) Emission in
    let values = length-map (filter (has_values net) (out_events net)) Value in
    let events = ap length c.requires.events in
    let len = c.len.ensures in
    let next = c.requires.next in
    let room = c.requires.room in
    omega arith

pub out_signals_of-requires-2 : goal.out_signals_of-requires-2
out_signals_of-requires-2 c =
    let net = c.args.net.now in
    let within = all_within net in
    let many = length-map (out_events net) Emission in
    let values = length-map (filter (has_values net) (out_events net)) Value in
    let events = ap length c.requires.events in
    let valued = ap length (c.as_slice-2.ensures ∙ c.requires.valued) in
    let len = c.len.ensures in
    let next = c.requires.next in
    let room = c.requires.room in
    omega arith

pub returns : goal.returns
returns c =
    let net = c.args.net.now in
    let m = c.args.m in
    let out = out_events net in
    let outputs = sym (outputs_of_machine net m c.get-machine.result.now c.get-machine.ensures) in
    let n = first_number net (length net.machines) in
    record {
      first = c.requires.first;
      emissions = c.in_ok-emissions.ensures
          ∙ ap (λ (l : List ℕ). out_signals l c.args.n c.as_slice.result.now) outputs
          ∙ ap (λ (k : ℕ). out_signals (outputs_of net m) k c.as_slice.result.now) c.requires.next
          ∙ ap (out_signals (outputs_of net m) n) (c.as_slice.ensures ∙ c.requires.events);
      values = c.in_ok-values.ensures
          ∙ ap (λ (l : List ℕ). out_signals l (c.args.n + c.len.result) c.as_slice-2.result.now)
          outputs
          ∙ ap (λ (k : ℕ). out_signals (outputs_of net m)
          (k + c.len.result) c.as_slice-2.result.now) c.requires.next
          ∙ ap (λ (k : ℕ). out_signals (outputs_of net m) (n + k) c.as_slice-2.result.now)
          (c.len.ensures ∙ ap length c.requires.events)
          ∙ ap (out_signals (outputs_of net m) (n + length out))
          (c.as_slice-2.ensures ∙ c.requires.valued);
    }
