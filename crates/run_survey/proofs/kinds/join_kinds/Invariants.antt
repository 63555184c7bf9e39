use Rattle.std.proofs.Common.{◌≡◌, ◌+◌, List, sum_by, take}
use Rattle.run_survey.specs.declared.told.Kind.{Kind}
use Rattle.run_survey.specs.Kinds.{most_kinds}
use Rattle.run_survey.specs.inner.Merging.{AreTold, all_merged, count_of, run_count}
use Rattle.run_survey.proofs.kinds.join_kinds.Given as goal

-- the kinds before this one are merged
abbrev pub invariant-loop-kind : goal.invariant-loop-kind
invariant-loop-kind l = record {
  room : run_count l.kinds.items l.others
      ≡ run_count l.fn.kinds.items l.fn.others + sum_by count_of (take l.kind-index l.next);
  told : (all : List Kind) → AreTold most_kinds all l.fn.kinds.items l.fn.others
      → AreTold most_kinds (all_merged all (take l.kind-index l.next)) l.kinds.items l.others;
}
