use Rattle.std.proofs.Common.{ℕ, not, ap, subst, sym, ◌∙◌}
use Rattle.std.specs.Prelude.{option_map}
use Rattle.std.specs.Int.{bit_at}
use Rattle.polis_base.proofs.SmallSets.{with_same, with_others}
use Rattle.transition_table.specs.declared.decl.Party.TheVariants.{Env}
use Rattle.run_shuffle.specs.Moves.{next_delivery}
use Rattle.run_shuffle.specs.Orders.{first_move}
use Rattle.run_shuffle.specs.inner.Ways.{Gives}
use Rattle.net_core.specs.declared.answer.NextEnv.{NextEnv}
use Rattle.run_shuffle.proofs.WaysGive.{first_gives, first_gives_none}
use Rattle.run_shuffle.proofs.chances.first_receiver.Goals as goal

pub returns-in-Some : goal.returns-in-Some
returns-in-Some c =
    let now = c.args.config.now in
    let next = c.in-Some.next in
    first_gives c.laws.ensures c.sending_laws.ensures now.net now.trace now.journal next.owed
    (not next.ready) c.with.result c.trace-trace.ensures.fits c.next_env.ensures.legal
    (sym c.next_env.ensures.first
    ∙ ap (option_map (λ (n : NextEnv). (n.owed, not n.ready))) c.in-Some.is)
    (with_same c.with.result c.empty-none.result next.owed.to c.with.ensures) (λ k other.
    with_others c.with.result c.empty-none.result next.owed.to c.with.ensures k other
    ∙ ap (λ (n : ℕ). bit_at n k) c.empty-none.ensures)

pub returns-in-None : goal.returns-in-None
returns-in-None c =
    let now = c.args.config.now in
    subst (λ (n : ℕ). Gives now.net (next_delivery now.net now.trace now.journal Env) n
    (first_move now.net now.trace now.journal)) (sym c.empty-none.ensures)
    (first_gives_none now.net now.trace now.journal
    (sym c.next_env.ensures.first
    ∙ ap (option_map (λ (n : NextEnv). (n.owed, not n.ready))) c.in-None.is))
