use Rattle.order_sift.proofs.Levels.{levels_of_sets, levels_join, levels_after, size_with_item}
use Rattle.order_sift.proofs.OneOrder.{one_last, one_sifted}
use Rattle.order_sift.proofs.law.laws.Goals as goal

pub returns : goal.returns
returns c = record {
  levels_of_sets = levels_of_sets;
  levels_join = levels_join;
  levels_after = levels_after;
  size_with_item = size_with_item c.laws.ensures.size_by_sets;
  one_last = one_last;
  one_sifted = one_sifted;
}
