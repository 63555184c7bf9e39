use Rattle.std.proofs.Common.{ℕ, Bool, [], cond, sym, subst}
use Rattle.transition_table.specs.declared.decl.Party.TheVariants.{Env}
use Rattle.run_shuffle.specs.declared.order.RunOrder.{RunOrder}
use Rattle.run_shuffle.specs.Moves.{next_delivery}
use Rattle.run_shuffle.specs.Orders.{env_offered, first_move, moves_of_block}
use Rattle.run_shuffle.specs.inner.Ways.{Gives}
use Rattle.run_shuffle.proofs.GivenMoves.{gives_none}
use Rattle.run_shuffle.proofs.WaysGive.{block_gives, env_gives}
use Rattle.run_shuffle.proofs.chances.env_chances.Goals as goal

pub returns-in-Free-clause-gives : goal.returns-in-Free-clause-gives
returns-in-Free-clause-gives c =
    let now = c.args.config.now in
    subst
    (λ (o : RunOrder). Gives now.net (next_delivery now.net now.trace now.journal Env)
    c.args.ways.now.env (env_offered o now.net now.trace now.journal))
    (sym c.in-Free.is)
    (env_gives c.sending_laws.ensures now c.args.ways.now c.journal-journal.ensures.legal
    c.requires.ways)

pub returns-in-Some-clause-gives : goal.returns-in-Some-clause-gives
returns-in-Some-clause-gives c =
    let now = c.args.config.now in
    subst
    (λ (o : RunOrder). Gives now.net (next_delivery now.net now.trace now.journal Env)
    c.to_block.result (env_offered o now.net now.trace now.journal))
    (sym c.in-Settled.is)
    (subst
    (λ (b : Bool). Gives now.net (next_delivery now.net now.trace now.journal Env)
    c.to_block.result (cond b (moves_of_block now.net now.trace now.journal) []))
    c.in-Some.ensures.open
    (block_gives c.sending_laws.ensures now.net now.trace now.journal c.in-Some.block
    c.to_block.result c.journal-journal.ensures.legal c.in-Some.ensures.block
    c.to_block.ensures.set))

pub returns-in-None-clause-gives : goal.returns-in-None-clause-gives
returns-in-None-clause-gives c =
    let now = c.args.config.now in
    subst
    (λ (o : RunOrder). Gives now.net (next_delivery now.net now.trace now.journal Env)
    c.empty-none.result
    (env_offered o now.net now.trace now.journal))
    (sym c.in-Settled.is)
    (subst
    (λ (b : Bool). Gives now.net (next_delivery now.net now.trace now.journal Env)
    c.empty-none.result
    (cond b (moves_of_block now.net now.trace now.journal) []))
    c.in-None.ensures.open
    (subst (λ (n : ℕ). Gives now.net (next_delivery now.net now.trace now.journal Env) n [])
    (sym c.empty-none.ensures)
    (gives_none now.net (next_delivery now.net now.trace now.journal Env))))

pub returns-in-None-open_block-clause-gives : goal.returns-in-None-open_block-clause-gives
returns-in-None-open_block-clause-gives c =
    let now = c.args.config.now in
    subst
    (λ (o : RunOrder). Gives now.net (next_delivery now.net now.trace now.journal Env)
    c.empty-none.result
    (env_offered o now.net now.trace now.journal))
    (sym c.in-Scheduled.is)
    (subst
    (λ (b : Bool). Gives now.net (next_delivery now.net now.trace now.journal Env)
    c.empty-none.result
    (cond b (first_move now.net now.trace now.journal) []))
    c.in-None-open_block.ensures.open
    (subst (λ (n : ℕ). Gives now.net (next_delivery now.net now.trace now.journal Env) n [])
    (sym c.empty-none.ensures)
    (gives_none now.net (next_delivery now.net now.trace now.journal Env))))
