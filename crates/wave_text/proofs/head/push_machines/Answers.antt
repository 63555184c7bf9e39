use Rattle.std.proofs.Common.{length, refl, ap, arith}
use Rattle.wave_text.proofs.HeadText.{snapshot_signals_by, losses_by, numbers_more, scopes_more}
use Rattle.wave_text.proofs.MachineSignals.{snapshot_signals_many, loss_signals_many, states_of_machine}
use Rattle.event_accounts.proofs.InputsOf.{inputs_of_machine}
use Rattle.wave_text.proofs.MomentSteps.{signals_within}
use Rattle.wave_text.proofs.head.push_machines.Goals as goal

pub push_machine-requires-clause-kept : goal.push_machine-requires-clause-kept
push_machine-requires-clause-kept c =
    snapshot_signals_by c.args.net.now c.loop-m.m c.loop-m.m c.get-machine.result.now
    c.in_ok-kept.kept
    c.get-machine.ensures refl c.in_ok-kept.ensures

pub push_machine-requires-clause-losses : goal.push_machine-requires-clause-losses
push_machine-requires-clause-losses c =
    losses_by c.args.net.now c.loop-m.m c.loop-m.m c.get-machine.result.now c.in_ok-losses.losses
    c.get-machine.ensures refl c.in_ok-losses.ensures

pub overflow_add-n : goal.overflow_add-n
overflow_add-n c =
    let net = c.args.net.now in
    let m = c.loop-m.m in
    let machine = c.get-machine.result.now in
    let end = signals_within net m (let last = c.len-m-end.ensures in omega arith) in
    let kept = snapshot_signals_many net m in
    let losses = loss_signals_many net m in
    let inputs = ap length (inputs_of_machine net m machine c.get-machine.ensures) in
    let states = ap length (states_of_machine net m machine c.get-machine.ensures) in
    let count = c.signal_count-n.ensures.count in
    let number = c.loop-m.invariant.number in
    let room = c.requires in
    omega arith

pub loop-m-preserved : goal.loop-m-preserved
loop-m-preserved c =
    let net = c.args.net.now in
    let m = c.loop-m.m in
    let machine = c.get-machine.result.now in
    record {
      number =
          (let more = numbers_more net m machine c.get-machine.ensures in
          let count = c.signal_count-n.ensures.count in
          let number = c.loop-m.invariant.number in
          omega arith);
      scopes = scopes_more net m c.args.into.now c.loop-m.into c.push_machine.new.into
          c.loop-m.invariant.scopes c.in_ok-push_machine.ensures;
    }
