use Rattle.std.proofs.Common.{◌≡◌, length}
use Rattle.table_use.specs.inner.Walking.{input_met}
use Rattle.table_use.proofs.Sets.{AreJudged}
use Rattle.table_use.proofs.walk.visit_inputs.Given as goal

-- those before this one are judged, the others are as they were
abbrev pub invariant-loop-i : goal.invariant-loop-i
invariant-loop-i l = record {
  long : length l.inputs.items ≡ length l.fn.inputs.items;
  judged : AreJudged (λ i x. input_met l.lookup.machine.now l.codes i x) l.i l.fn.inputs.items
      l.inputs.items;
}
