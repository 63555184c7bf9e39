use Rattle.std.proofs.Common.{◌≡◌, ◌<◌, ℕ, length}
use Rattle.transition_table.specs.declared.snapshot.Snapshot.{Snapshot}
use Rattle.transition_table.specs.Transitions.{Conflict}
use Rattle.determinism.proofs.conflict.check_rows.Given as goal

-- no row before this one conflicts with another
abbrev pub invariant-loop-a : goal.invariant-loop-a
invariant-loop-a l = record {
  sets : length l.sets ≡ length l.m.vars;
  long : length l.s.codes ≡ length l.m.vars;
  best_long : length l.best.codes ≡ length l.m.vars;
  none : (c d : ℕ) (t : Snapshot) → c < l.a → Conflict l.m c d t → ⊥;
}
