use Rattle.std.proofs.Common.{◌+◌, ◌==◌, ◌++◌, ℕ, ap, ◌∙◌, arith, drop, slice_index, Option}
use Rattle.std.specs.Prelude.{position}
use Rattle.wave_text.specs.inner.Changing.{out_signals, out_signal_at}
use Rattle.event_accounts.proofs.OneItemMore.{one_more}
use Rattle.wave_text.proofs.ChangeSteps.{out_signals_more}
use Rattle.wave_text.proofs.change.out_signals_of.Goals as goal

pub loop-k-preserved : goal.loop-k-preserved
loop-k-preserved c =
    let a = c.args in
    let k = c.loop-k.k in
    let e = slice_index a.events.now k in
    let outputs = a.machine.now.outputs in
    let place = c.place_of-output.ensures
    ∙ ap (position (λ output. output == e)) c.as_slice.ensures in
    one_more c.loop-k.list c.push_out_signal.new.list
    (out_signal_at (a.first + k) e (position (λ output. output == e) outputs))
    (out_signals outputs (a.first + k) (drop k a.events.now))
    (out_signals outputs (a.first + (k + 1)) (drop (k + 1) a.events.now))
    (out_signals outputs a.first a.events.now)
    (c.in_ok-push_out_signal.ensures
    ∙ ap (λ (o : Option ℕ). c.loop-k.list ++ out_signal_at (a.first + k) e o) place)
    (out_signals_more outputs a.first a.events.now k (omega arith))
    c.loop-k.invariant
