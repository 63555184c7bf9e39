use Rattle.std.proofs.Common.{◌≡◌, List, length, slice_get, Some, subst, ap, ◌∙◌, arith}
use Rattle.std.proofs.lemmas.List.{length_push}
use Rattle.wave_text.specs.declared.change.Numbering.{Numbering}
use Rattle.wave_text.proofs.HeadText.{numbers_more, numberings_more}
use Rattle.wave_text.proofs.MachineSignals.{snapshot_signals_many, loss_signals_many, states_of_machine}
use Rattle.event_accounts.proofs.InputsOf.{inputs_of_machine}
use Rattle.wave_text.proofs.MomentSteps.{signals_within}
use Rattle.wave_text.proofs.wave.all_numberings.Goals as goal

pub overflow_add-first : goal.overflow_add-first
overflow_add-first c =
    let net = c.args.net.now in
    let m = c.loop-m.m in
    let machine = c.get.result.now in
    let end = signals_within net m (let last = c.len-m-end.ensures in omega arith) in
    let kept = snapshot_signals_many net m in
    let losses = loss_signals_many net m in
    let inputs = ap length (inputs_of_machine net m machine c.get.ensures) in
    let states = ap length (states_of_machine net m machine c.get.ensures) in
    let count = c.signal_count-first.ensures.count in
    let number = c.loop-m.invariant.number in
    let room = c.requires.room in
    omega arith

pub loop-m-preserved : goal.loop-m-preserved
loop-m-preserved c =
    let net = c.args.net.now in
    let m = c.loop-m.m in
    let machine = c.get.result.now in
    let old : List Numbering = c.loop-m.numberings.items in
    let one : Numbering = c.in_ok-numbering.numbering in
    record {
      many = ap length c.in_ok-push.ensures.items ∙ length_push old one
          ∙ (let many = c.loop-m.invariant.many in omega arith);
      each = λ k s at.
          numberings_more net m old one c.loop-m.invariant.many c.loop-m.invariant.each
          c.in_ok-numbering.ensures
          k s (subst (λ (l : List Numbering). slice_get l k ≡ Some s) c.in_ok-push.ensures.items
          at);
      number =
          (let more = numbers_more net m machine c.get.ensures in
          let count = c.signal_count-first.ensures.count in
          let number = c.loop-m.invariant.number in
          omega arith);
    }
