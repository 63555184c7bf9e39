use Rattle.std.proofs.Common.{◌≡◌, ℕ, length, ap, subst, sym, ◌∙◌}
use Rattle.std.specs.Prelude.{min}
use Rattle.run_shuffle.specs.declared.order.RunOrder.{RunOrder}
use Rattle.run_shuffle.specs.Orders.{network_offered}
use Rattle.run_shuffle.proofs.WaysGive.{scheduled_many}
use Rattle.run_shuffle.proofs.chances.network_chances.Goals as goal

pub returns-in-Scheduled : goal.returns-in-Scheduled
returns-in-Scheduled c =
    let now = c.args.config.now in
    subst
    (λ (o : RunOrder). c.min.result
    ≡ length (network_offered o now.net now.trace now.journal))
    (sym c.in-Scheduled.is)
    (c.min.ensures ∙ ap (λ (k : ℕ). min k 1) c.requires
    ∙ scheduled_many c.laws.ensures c.sending_laws.ensures now.net now.trace now.journal
    c.journal-journal.ensures.legal)
