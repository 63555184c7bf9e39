use Rattle.std.proofs.Common.{◌+◌, ◌==◌, ◌&&◌, Bool, not, cond, ◌∷◌, [], ◌++◌, ap, ◌∙◌, arith, drop, slice_index}
use Rattle.wave_text.specs.inner.Changing.{loss_changes, happens}
use Rattle.wave_text.proofs.ChangeSteps.{loss_changes_more}
use Rattle.event_accounts.proofs.OneItemMore.{one_more}
use Rattle.wave_text.proofs.change.push_loss.Goals as goal

pub loop-k-preserved : goal.loop-k-preserved
loop-k-preserved c =
    let a = c.args in
    let k = c.loop-k.k in
    one_more c.loop-k.changes.items c.push_if.new.changes.items
    (cond (a.event == slice_index a.inputs.now k && not (slice_index a.before.now k == 0))
    (happens (a.first + k) ∷ []) [])
    (loss_changes (a.first + k) (drop k a.inputs.now) a.event (drop k a.before.now))
    (loss_changes (a.first + (k + 1)) (drop (k + 1) a.inputs.now) a.event
    (drop (k + 1) a.before.now))
    (a.changes.now.items ++ loss_changes a.first a.inputs.now a.event a.before.now)
    (c.in_ok-push_if.ensures
    ∙ ap (λ (b : Bool). c.loop-k.changes.items ++ cond b (happens (a.first + k) ∷ []) [])
    c.overwrites-lost.ensures)
    (loss_changes_more a.first a.event a.inputs.now a.before.now k (omega arith) (omega arith))
    c.loop-k.invariant
