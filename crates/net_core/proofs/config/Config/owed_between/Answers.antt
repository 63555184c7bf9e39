use Rattle.std.proofs.Common.{◌≡◌, ◌<◌, ◌≤◌, length, ap, sym, subst, ◌∙◌, arith}
use Rattle.std.specs.Prelude.{find}
use Rattle.transition_table.specs.declared.decl.Party.TheVariants.{Machine as Sender}
use Rattle.journals.specs.Schedules.{is_way, owed_by_machines}
use Rattle.net_core.specs.Moments.{Moment}
use Rattle.net_core.proofs.config.Config.owed_between.Goals as goal

pub first_between-requires : goal.first_between-requires
first_between-requires c =
    let from = subst (λ (m : Moment). c.args.from < length m.net.machines) (sym c.self.view_is)
    c.requires.from in
    let to = subst (λ (m : Moment). c.args.to < length m.net.machines) (sym c.self.view_is)
    c.requires.to in
    let sixty_four : length c.self.inside.net.now.machines ≤ 64 =
    c.self.inside.net.now.few_machines in
    record { from = omega arith; to = omega arith }

pub returns-clause-first : goal.returns-clause-first
returns-clause-first c =
    subst (λ (m : Moment). c.first_between.result
    ≡ find (is_way (Sender c.args.from) c.args.to) (owed_by_machines m.net m.journal))
    c.self.view_is
    (c.first_between.ensures
    ∙ ap (find (is_way (Sender c.args.from) c.args.to)) c.self.invariant.owed_are)
