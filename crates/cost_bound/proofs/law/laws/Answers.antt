use Rattle.cost_bound.proofs.CoversBound.{ones_are_steps, covers_bound}
use Rattle.cost_bound.proofs.law.laws.Goals as goal

pub returns : goal.returns
returns c = record {
  ones_are_steps = ones_are_steps;
  covers_bound = covers_bound;
}
