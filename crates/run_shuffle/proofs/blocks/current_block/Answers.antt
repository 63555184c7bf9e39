use Rattle.std.proofs.Common.{not, ap, sym, ◌∙◌}
use Rattle.std.specs.Prelude.{option_map}
use Rattle.net_core.specs.declared.answer.NextEnv.{NextEnv}
use Rattle.run_shuffle.proofs.OffersUntilComplete.{first_block_is, first_is, no_current_block}
use Rattle.run_shuffle.proofs.blocks.current_block.Goals as goal

pub block_to-requires : goal.block_to-requires
block_to-requires c =
    let now = c.args.config.now in
    let next = c.in-Some.next in
    (first_is c.laws.ensures c.sending_laws.ensures now.net now.trace now.journal
    (next.owed, not next.ready) c.trace-trace.ensures.fits c.next_env.ensures.legal
    (sym c.next_env.ensures.first
    ∙ ap (option_map (λ (n : NextEnv). (n.owed, not n.ready))) c.in-Some.is)).below

pub returns-in-Some : goal.returns-in-Some
returns-in-Some c =
    let now = c.args.config.now in
    let next = c.in-Some.next in
    c.block_to.ensures
    ∙ first_block_is now.net now.trace now.journal next.owed
    (first_is c.laws.ensures c.sending_laws.ensures now.net now.trace now.journal
    (next.owed, not next.ready) c.trace-trace.ensures.fits c.next_env.ensures.legal
    (sym c.next_env.ensures.first
    ∙ ap (option_map (λ (n : NextEnv). (n.owed, not n.ready))) c.in-Some.is))

pub returns-in-None : goal.returns-in-None
returns-in-None c =
    let now = c.args.config.now in
    sym
    (no_current_block now.net now.trace now.journal
    (sym c.next_env.ensures.first
    ∙ ap (option_map (λ (n : NextEnv). (n.owed, not n.ready))) c.in-None.is))
