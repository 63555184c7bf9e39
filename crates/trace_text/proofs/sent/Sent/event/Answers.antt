use Rattle.std.proofs.Common.{◌∙◌, length, sym, ap, arith}
use Rattle.net_names.specs.Tables.{number_at}
use Rattle.trace_text.specs.Traces.{is_sent_event}
use Rattle.polis_base.proofs.Found.{find_is}
use Rattle.trace_text.proofs.sent.Sent.event.Goals as goal

pub returns-clause-below : goal.returns-clause-below
returns-clause-below c =
    (find_is (is_sent_event c.args.self.now.net.now c.args.word.now)
    (length c.args.self.now.net.now.events) c.in_ok-e.e
    (sym (c.args.self.now.numbers c.args.word.now)
    ∙ ap (number_at _) (sym c.in_ok-name.ensures.some) ∙ sym c.in_ok-e.ensures)).0

pub returns-clause-sent : goal.returns-clause-sent
returns-clause-sent c =
    (find_is (is_sent_event c.args.self.now.net.now c.args.word.now)
    (length c.args.self.now.net.now.events) c.in_ok-e.e
    (sym (c.args.self.now.numbers c.args.word.now)
    ∙ ap (number_at _) (sym c.in_ok-name.ensures.some) ∙ sym c.in_ok-e.ensures)).1

pub overflow_cast-result : goal.overflow_cast-result
overflow_cast-result c =
    let found =
    find_is (is_sent_event c.args.self.now.net.now c.args.word.now)
    (length c.args.self.now.net.now.events) c.in_ok-e.e
    (sym (c.args.self.now.numbers c.args.word.now)
    ∙ ap (number_at _) (sym c.in_ok-name.ensures.some) ∙ sym c.in_ok-e.ensures) in
    omega (arith, found.0, c.args.self.now.net.now.few_events)
