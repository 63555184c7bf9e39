use Rattle.std.proofs.Common.{true, [], ◌∷◌, ◌++◌, ap, subst, ◌∙◌}
use Rattle.std.specs.Prelude.{is_some}
use Rattle.transition_table.specs.declared.decl.Party.TheVariants.{Machine as Sender}
use Rattle.journals.specs.declared.entry.Entry.TheVariants.{Dep}
use Rattle.journals.specs.Schedules.{is_way, owed_by_machines}
use Rattle.net_core.specs.Moments.{Moment}
use Rattle.run_shuffle.specs.declared.ways.Ways.{Ways}
use Rattle.run_shuffle.specs.inner.Ways.{owes}
use Rattle.run_shuffle.proofs.OwedWays.{some_found}
use Rattle.run_shuffle.proofs.WaysAfter.{IsMarked, between_taken, marked_row, receiver_is, row_set, taken, with_one}
use Rattle.run_shuffle.proofs.ways.Ways.take_between.Goals as goal
use Rattle.net_core.proofs.ClocksAfter.{sender_within}

pub returns-clause-ways : goal.returns-clause-ways
returns-clause-ways c =
    let now = c.args.config.now in
    let ways = c.args.self.now in
    let from = c.args.from in
    let to = c.args.to in
    let new = c.take.new.self in
    let is = c.in_ok-take.ensures.ok in
    let left =
    c.marked.ensures.same ∙ c.is_some-left.ensures ∙ ap is_some c.owed_between.ensures.first
    ∙ some_found (is_way (Sender from) to) (owed_by_machines new.net new.journal)
    ∙ ap (λ (m : Moment). owes m.net m.journal from to) is in
    row_set new (taken now (Dep (Sender from) to c.args.event c.args.code)) ways
    c.set_receivers.new.self from c.marked.result c.with-self.result is
    c.set_receivers.ensures.sends c.set_receivers.ensures.owed c.set_receivers.ensures.same (λ sum all.
    between_taken c.moving_laws.ensures.moves_owed c.moving_laws.ensures.moves_waking
    c.sending_laws.ensures.trace_gives now ways from to c.args.event c.args.code c.marked.result
    c.with-self.result sum c.journal-journal.ensures.legal c.requires.ways
    (sender_within now.net from to c.args.event c.args.code c.requires.fits)
    (receiver_is now.net (Sender from) to c.args.event c.args.code c.requires.fits)
    (marked_row ways.sends from c.get-owed.result.now c.marked.result to
    (owes now.net (now.journal ++ Dep (Sender from) to c.args.event c.args.code ∷ []) from to)
    c.get-owed.ensures left c.marked.ensures.others)
    (subst (λ (w : Ways). IsMarked w.woken c.with-self.result to true) c.set_receivers.ensures.same
    (with_one c.set_receivers.new.self.woken c.with-self.result to c.with-self.ensures)) all)
