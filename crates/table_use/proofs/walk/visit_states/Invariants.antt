use Rattle.std.proofs.Common.{◌≡◌, not, ◌&&◌, length}
use Rattle.table_use.specs.inner.Walking.{differs}
use Rattle.table_use.proofs.Sets.{AreJudged}
use Rattle.table_use.proofs.walk.visit_states.Given as goal

-- those before this one are judged, the others are as they were
abbrev pub invariant-loop-x : goal.invariant-loop-x
invariant-loop-x l = record {
  long : length l.states ≡ length l.fn.states;
  judged : AreJudged (λ x b. b && not (differs l.lookup.machine.now x l.codes)) l.x l.fn.states
      l.states;
}
