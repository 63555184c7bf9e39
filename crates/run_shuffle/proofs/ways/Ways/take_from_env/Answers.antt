use Rattle.std.proofs.Common.{ℕ, List, Option, length, nat_lt, ap, ◌∙◌}
use Rattle.transition_table.specs.declared.decl.Party.TheVariants.{Env}
use Rattle.journals.specs.declared.entry.TraceItem.{TraceItem}
use Rattle.journals.specs.Cursors.{cursor}
use Rattle.run_shuffle.specs.Orders.{same_block}
use Rattle.run_shuffle.proofs.WaysAfter.{env_taken_after, receiver_is, with_one}
use Rattle.run_shuffle.proofs.ways.Ways.take_from_env.Goals as goal

pub returns-clause-ways : goal.returns-clause-ways
returns-clause-ways c =
    let now = c.args.config.now in
    let to = c.args.to in
    let new = c.take.new.self in
    let begun = c.begin.new.self in
    let sent =
    c.marked-self.ensures.same ∙ ap (λ (p : ℕ). nat_lt p c.len.result) c.place.ensures.place
    ∙ ap (λ (k : ℕ). nat_lt (cursor new.net new.trace new.journal to) k)
    (c.len.ensures ∙ ap (λ (l : List TraceItem). length l) c.trace.ensures.trace) in
    let of_block =
    c.marked-self-2.ensures.same ∙ c.same_block.ensures
    ∙ ap (λ (o : Option ℕ). same_block o begun.block) c.block_to-own.ensures.block in
    env_taken_after c.moving_laws.ensures.moves_owed c.moving_laws.ensures.moves_waking
    c.sending_laws.ensures.trace_gives now new c.args.self.now begun to c.args.event c.args.code
    c.marked-self.result c.with-self.result c.marked-self-2.result c.journal-journal.ensures.legal
    c.requires.ways (receiver_is now.net Env to c.args.event c.args.code c.requires.fits)
    c.in_ok-take.ensures.ok c.begin.ensures.same (c.begin.ensures.begun c.args.event c.args.code)
    (record { own = sent; others = c.marked-self.ensures.others })
    (with_one begun.woken c.with-self.result to c.with-self.ensures)
    (record { own = of_block; others = c.marked-self-2.ensures.others })
