use Rattle.run_survey.proofs.RunsJoined.{few_runs}
use Rattle.run_survey.proofs.Shapes.{shaped}
use Rattle.run_survey.proofs.workers.survey_by.Goals as goal

pub returns-clause-shape : goal.returns-clause-shape
returns-clause-shape g c =
    shaped (g.R.Reactor.meaning c.args.r.now) (g.W.Watcher.monitor c.args.w.now)
    c.args.trace.now c.args.drawing.order
    c.args.drawing.limit c.args.seeds.first c.args.seeds.count c.in_ok-survey.survey
    c.in_ok-survey.ensures

pub returns-clause-few : goal.returns-clause-few
returns-clause-few g c = λ few.
    few_runs (g.R.Reactor.meaning c.args.r.now) (g.W.Watcher.monitor c.args.w.now)
    c.args.trace.now c.args.drawing.order c.args.drawing.limit c.args.seeds.first
    c.args.seeds.count c.in_ok-survey.survey c.in_ok-survey.ensures few
