use Rattle.std.proofs.Common.{not, ap, sym, ◌∙◌}
use Rattle.std.specs.Prelude.{option_map}
use Rattle.net_core.specs.declared.answer.NextEnv.{NextEnv}
use Rattle.run_shuffle.proofs.OffersUntilComplete.{first_block_is, first_is, no_current_block}
use Rattle.run_shuffle.proofs.chances.current_block.Goals as goal

pub returns-in-Some-clause-block : goal.returns-in-Some-clause-block
returns-in-Some-clause-block c =
    let now = c.args.config.now in
    let next = c.in-Some.next in
    c.block_to.ensures.block
    ∙ first_block_is now.net now.trace now.journal next.owed
    (first_is c.laws.ensures c.sending_laws.ensures now.net now.trace now.journal
    (next.owed, not next.ready) c.trace-trace.ensures.fits c.next_env.ensures.legal
    (sym c.next_env.ensures.first
    ∙ ap (option_map (λ (n : NextEnv). (n.owed, not n.ready))) c.in-Some.is))

pub returns-in-None-clause-block : goal.returns-in-None-clause-block
returns-in-None-clause-block c =
    let now = c.args.config.now in
    sym
    (no_current_block now.net now.trace now.journal
    (sym c.next_env.ensures.first
    ∙ ap (option_map (λ (n : NextEnv). (n.owed, not n.ready))) c.in-None.is))
