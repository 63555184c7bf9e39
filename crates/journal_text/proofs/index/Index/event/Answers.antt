use Rattle.std.proofs.Common.{◌∙◌, length, sym, ap, arith}
use Rattle.net_names.specs.Tables.{number_at}
use Rattle.transition_table.specs.declared.decl.EventDecl.{EventDecl}
use Rattle.journal_text.proofs.NameNumbers.{first_below, no_such_event}
use Rattle.journal_text.proofs.index.Index.event.Goals as goal

pub returns-in_err-name-clause-event : goal.returns-in_err-name-clause-event
returns-in_err-name-clause-event c =
    c.from_residual.ensures
    ∙ sym (no_such_event c.args.self.now.net.now c.args.word.now c.args.self.now.names
    c.in_err-name.ensures.none)

pub returns-in-Some-clause-below : goal.returns-in-Some-clause-below
returns-in-Some-clause-below c =
    first_below (λ (event : EventDecl). event.name) c.args.self.now.net.now.events
    (length c.args.self.now.net.now.events) c.args.word.now c.in-Some.e
    (sym (c.args.self.now.event_numbers c.args.word.now)
    ∙ ap (number_at _) (sym c.in_ok-name.ensures.some)
    ∙ sym c.number.ensures ∙ c.in-Some.is)

pub overflow_cast-result : goal.overflow_cast-result
overflow_cast-result c =
    let below = first_below (λ (event : EventDecl). event.name) c.args.self.now.net.now.events
    (length c.args.self.now.net.now.events) c.args.word.now c.in-Some.e
    (sym (c.args.self.now.event_numbers c.args.word.now)
    ∙ ap (number_at _) (sym c.in_ok-name.ensures.some)
    ∙ sym c.number.ensures ∙ c.in-Some.is) in
    omega (arith, below, c.args.self.now.net.now.few_events)
