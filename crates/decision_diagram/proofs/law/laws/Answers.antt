use Rattle.decision_diagram.proofs.DiagramLaws.{count_is_size, somewhere_true, reached_led, one_child}
use Rattle.decision_diagram.proofs.SizeByLevels.{size_by_levels}
use Rattle.decision_diagram.proofs.law.laws.Goals as goal

pub returns : goal.returns
returns c = record {
  count_is_size = count_is_size;
  size_by_sets = λ f sizes order perm lengths sized.
      size_by_levels f sizes order perm lengths sized;
  somewhere_true = somewhere_true;
  reached_led = reached_led;
  one_child = one_child;
}
