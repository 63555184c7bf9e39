use Rattle.std.proofs.Common.{◌≡◌, not, subst}
use Rattle.std.specs.Prelude.{option_map}
use Rattle.polis_base.specs.Lists.{head_of}
use Rattle.journals.specs.Schedules.{owed_by_env}
use Rattle.net_core.specs.declared.answer.NextEnv.{NextEnv}
use Rattle.net_core.specs.Moments.{Moment}
use Rattle.net_core.proofs.config.Config.next_env.Goals as goal

pub next_env-requires : goal.next_env-requires
next_env-requires c = (c.self.inside.journal, c.self.invariant)

pub returns-clause-first : goal.returns-clause-first
returns-clause-first c =
    subst (λ (m : Moment). option_map (λ (next : NextEnv). (next.owed, not next.ready))
    c.next_env.result ≡ head_of (owed_by_env m.net m.trace m.journal)) c.self.view_is
    (c.next_env.ensures c.self.inside.journal c.self.invariant)
