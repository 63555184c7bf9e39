use Rattle.cost_bound.proofs.BoundsByTests.{lamp_bounds, join_bounds, numbers}
use Rattle.cost_bound.proofs.worked.worked_bounds.Goals as goal

pub returns : goal.returns
returns c = record {
  lamp = lamp_bounds c.laws_of_all_codes.ensures.lists_all;
  join = join_bounds c.laws_of_all_codes.ensures.lists_all;
  numbers = numbers;
}
