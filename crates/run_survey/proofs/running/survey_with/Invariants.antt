use Rattle.table_use.specs.Memos.{AreMemos}
use Rattle.run_survey.specs.Runs.{IsSurveyOf}
use Rattle.run_survey.proofs.running.survey_with.Given as goal

-- the survey of the seeds before this one
abbrev pub invariant-loop : goal.invariant-loop
invariant-loop g l = record {
  told : IsSurveyOf (g.R.Reactor.meaning l.r) (g.W.Watcher.monitor l.w) l.trace l.drawing.order
      l.drawing.limit l.fn.seeds.first l.counter l.survey;
  memos : AreMemos (g.R.Reactor.meaning l.r) l.tables l.memos.items;
}
