use Rattle.std.proofs.Common.{Option, unwrap_or, ap, ◌∙◌}
use Rattle.transition_table.specs.declared.decl.Party.TheVariants.{Env}
use Rattle.journals.specs.declared.entry.Pick.{Pick}
use Rattle.journals.specs.declared.entry.Pick.TheVariants.{Stop}
use Rattle.run_shuffle.specs.Moves.{next_delivery}
use Rattle.run_shuffle.specs.Orders.{env_offered}
use Rattle.run_shuffle.proofs.GivenMoves.{given_below, gives_at}
use Rattle.run_shuffle.proofs.choice.env_chance.Goals as goal

pub next_of_env-requires : goal.next_of_env-requires
next_of_env-requires c =
    let now = c.args.config.now in
    given_below now.net (next_delivery now.net now.trace now.journal Env) c.args.receivers
    (env_offered c.args.order now.net now.trace now.journal) c.args.number c.member.result
    c.requires.gives c.member.ensures

pub returns : goal.returns
returns c =
    let now = c.args.config.now in
    c.move_or_stop.ensures
    ∙ ap (λ (o : Option Pick). unwrap_or o Stop) c.next_of_env.ensures
    ∙ gives_at now.net (next_delivery now.net now.trace now.journal Env) c.args.receivers
    (env_offered c.args.order now.net now.trace now.journal) c.args.number c.member.result
    c.requires.gives c.member.ensures
