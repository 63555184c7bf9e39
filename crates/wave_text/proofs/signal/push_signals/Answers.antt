use Rattle.std.proofs.Common.{refl}
use Rattle.std.proofs.lemmas.List.{append_assoc}
use Rattle.event_accounts.proofs.InputsOf.{inputs_of_machine}
use Rattle.wave_text.proofs.MachineSignals.{states_of_machine}
use Rattle.wave_text.proofs.signal.push_signals.Goals as goal

pub returns : goal.returns
returns c =
    let net = c.args.net.now in
    let m = c.args.m in
    let machine = c.get-machine.result.now in
    let at = c.get-machine.ensures in
    rw (
      c.in_ok-push_losses.ensures,
      c.in_ok-push_states.ensures,
      c.in_ok-push_inputs.ensures,
      c.as_slice-2.ensures,
      c.as_slice.ensures,
      c.state_count.ensures.count,
      inputs_of_machine net m machine at,
      states_of_machine net m machine at,
    ) (simp append_assoc refl)
