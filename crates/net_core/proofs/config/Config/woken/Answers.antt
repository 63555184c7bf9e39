use Rattle.std.proofs.Common.{◌<◌, ◌≤◌, length, sym, subst, ◌∙◌, arith}
use Rattle.net_core.specs.Moments.{Moment}
use Rattle.net_core.proofs.config.Config.woken.Goals as goal

pub has-requires : goal.has-requires
has-requires c =
    let below = subst (λ (m : Moment). c.args.m < length m.net.machines) (sym c.self.view_is)
    c.requires in
    let sixty_four : length c.self.inside.net.now.machines ≤ 64 =
    c.self.inside.net.now.few_machines in
    omega arith

pub returns : goal.returns
returns c =
    let below = subst (λ (m : Moment). c.args.m < length m.net.machines) (sym c.self.view_is)
    c.requires in
    rw (← c.self.view_is) (c.has.ensures ∙ c.self.invariant.woken_are c.args.m below)
