use Rattle.task_code.specs.Codes.{StepsOf}
use Rattle.cost_bound.specs.Costs.{CostOf}
use Rattle.cost_bound.proofs.CoversBound.{ones_are_steps}
use Rattle.cost_bound.proofs.FirstScore.{worst_same}
use Rattle.cost_bound.proofs.extremes.worst.Goals as goal

pub returns : goal.returns
returns c =
    worst_same c.args.m.now (CostOf c.ones.result c.args.code.now) (StepsOf c.args.code.now)
    c.in_ok-bound.bound
    (λ s. ones_are_steps c.ones.result c.args.code.now s c.ones.ensures.test c.ones.ensures.set
    c.ones.ensures.jump c.ones.ensures.halt) (c.in_ok-bound.ensures)
