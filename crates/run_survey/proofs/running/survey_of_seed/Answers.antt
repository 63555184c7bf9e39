use Rattle.std.proofs.Common.{subst}
use Rattle.transition_table.specs.declared.network.Network.{Network}
use Rattle.run_survey.specs.Watching.{IsSaid}
use Rattle.run_survey.proofs.RunsJoined.{drawn_figures, one_run}
use Rattle.run_survey.proofs.running.survey_of_seed.Goals as goal

pub returns-clause-is : goal.returns-clause-is
returns-clause-is g c =
    let net = g.R.Reactor.meaning c.args.r.now in
    let monitor = g.W.Watcher.monitor c.args.w.now in
    let order = c.args.drawing.order in
    let limit = c.args.drawing.limit in
    let finished = c.in_ok-finished.finished in
    one_run net monitor c.args.trace.now order limit c.args.seed c.in_ok-figures.figures
    c.in_ok-survey.survey
    (drawn_figures net c.network-2.result.now monitor c.args.trace.now order limit c.args.seed
    finished.journal finished.complete c.in_ok-watched.watched c.in_ok-figures.figures c.network-2.ensures
    c.in_ok-finished.ensures.shuffled c.in_ok-finished.ensures.complete
    c.in_ok-figures.ensures.are
    (subst (λ (n : Network). IsSaid n monitor finished.journal c.in_ok-watched.watched)
    c.network.ensures c.in_ok-watched.ensures))
    c.in_ok-survey.ensures
