use Rattle.run_watch.proofs.Fitting.{answer_moved, settled_fits}
use Rattle.run_watch.proofs.watching.watch_with.Goals as goal

pub answer_to-requires-clause-trace : goal.answer_to-requires-clause-trace
answer_to-requires-clause-trace g c =
    let monitor = g.R.Reactor.meaning c.args.monitor.now in
    settled_fits c.args.net.now monitor c.args.journal.now c.in_ok-heard.heard
    c.requires.monitor c.requires.journal (c.in_ok-heard.ensures monitor c.requires.hearing)

pub returns-clause-answer : goal.returns-clause-answer
returns-clause-answer g c =
    let monitor = g.R.Reactor.meaning c.args.monitor.now in
    answer_moved c.args.net.now monitor c.args.journal.now c.in_ok-heard.heard
    c.in_ok-answer.answer (c.in_ok-heard.ensures monitor c.requires.hearing)
    c.in_ok-answer.ensures.answer
