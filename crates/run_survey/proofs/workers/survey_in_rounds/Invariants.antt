use Rattle.std.proofs.Common.{◌-◌, ◌<◌, ◌≤◌, All, length}
use Rattle.run_survey.specs.inner.Workers.{IsSoFar, Knows}
use Rattle.run_survey.proofs.workers.survey_in_rounds.Given as goal

-- what is told of the seeds before this one
abbrev pub invariant-loop-done : goal.invariant-loop-done
invariant-loop-done g l = record {
  within : l.done ≤ l.seeds.count;
  told : IsSoFar (g.R.Reactor.meaning l.r) (g.W.Watcher.monitor l.w)
      l.trace l.drawing l.seeds.first l.done l.so_far;
  knows : All (Knows (g.R.Reactor.meaning l.r) l.tables) l.memos.items;
  some : 0 < length l.memos.items;
}

abbrev pub decreases-loop-done : goal.decreases-loop-done
decreases-loop-done g l = l.seeds.count - l.done
