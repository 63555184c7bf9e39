use Rattle.std.proofs.Common.{◌+◌, subst, sym}
use Rattle.cost_bound.specs.declared.score.Score.{Score}
use Rattle.cost_bound.specs.inner.Scores.{IsBestOf}
use Rattle.cost_bound.proofs.ScoreSteps.{best_takes, best_keeps}
use Rattle.cost_bound.proofs.score.best_of.Goals as goal
use Rattle.cost_bound.proofs.score.best_of.Goals.{then-is_better, else-is_better}

pub loop-code-preserved : goal.loop-code-preserved
loop-code-preserved c =
    elim c.if-is_better.branch [
      | then-is_better w ↦
          subst (λ (r : Score). IsBestOf c.args.aim c.args.weight c.args.scores.now
          c.args.targets.now (c.loop-code.code + 1) r) (sym w.best-is)
          (best_takes c.args.aim c.args.weight c.args.scores.now c.args.targets.now
          c.loop-code.code c.loop-code.best c.by_code-score.result c.loop-code.invariant
          (c.by_code-score.ensures.cost, c.by_code-score.ensures.number)
          (c.is_better.ensures.yes w.if-is_better.true))
      | else-is_better w ↦
          subst (λ (r : Score). IsBestOf c.args.aim c.args.weight c.args.scores.now
          c.args.targets.now (c.loop-code.code + 1) r) (sym w.best-is)
          (best_keeps c.args.aim c.args.weight c.args.scores.now c.args.targets.now
          c.loop-code.code c.loop-code.best c.by_code-score.result c.loop-code.invariant
          (c.by_code-score.ensures.cost, c.by_code-score.ensures.number)
          (c.is_better.ensures.no w.if-is_better.false))
    ]
