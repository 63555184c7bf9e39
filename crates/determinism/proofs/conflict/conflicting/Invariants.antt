use Rattle.std.proofs.Common.{◌≡◌, ◌<◌, ◌≤◌, ◌-◌, ℕ, length}
use Rattle.transition_table.specs.declared.snapshot.Snapshot.{Snapshot}
use Rattle.transition_table.specs.Transitions.{Conflict}
use Rattle.determinism.proofs.conflict.conflicting.Given as goal

-- no row before this one conflicts
abbrev pub invariant-loop-b : goal.invariant-loop-b
invariant-loop-b l = record {
  sets : length l.sets ≡ length l.machine.vars;
  long : length l.s.codes ≡ length l.machine.vars;
  best_long : length l.best.codes ≡ length l.machine.vars;
  from : l.a < l.b;
  within : l.b ≤ length l.machine.rows;
  none : (d : ℕ) (t : Snapshot) → d < l.b → Conflict l.machine l.a d t → ⊥;
}

abbrev pub decreases-loop-b : goal.decreases-loop-b
decreases-loop-b l = length l.machine.rows - l.b
