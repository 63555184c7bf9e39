use Rattle.std.proofs.Common.{ℕ, Option, sym, ap, ◌∙◌}
use Rattle.std.specs.Option.{option_or}
use Rattle.run_watch.specs.Watches.{receiver}
use Rattle.run_watch.proofs.Telling.{last_after}
use Rattle.run_watch.proofs.origin.last_receiver.Goals as goal

pub loop-p-preserved : goal.loop-p-preserved
loop-p-preserved c =
    let watch = c.args.watch.now in
    let entry = c.get-entry.result.now in
    c.or-last.ensures
    ∙ ap (λ (o : Option ℕ). option_or o c.loop-p.last) c.receiver.ensures
    ∙ ap (option_or (receiver entry)) c.loop-p.invariant
    ∙ sym (last_after watch c.loop-p.p entry c.get-entry.ensures)
