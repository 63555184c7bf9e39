-- The least conflict of a machine.
use Rattle.std.specs.Prelude.{◌≤◌, ℕ}
use Rattle.transition_table.specs.declared.machine.Machine.{Machine}
use Rattle.transition_table.specs.declared.snapshot.Snapshot.{Snapshot}
use Rattle.transition_table.specs.Transitions.{Conflict}
use Rattle.determinism.specs.SnapshotOrder.{IsUpTo}

-- s is the least snapshot on which the two rows conflict
pub record IsLeastOf (m : Machine) (a b : ℕ) (s : Snapshot) : Type 0 where
  pub conflict : Conflict m a b s
  pub least : (t : Snapshot) → Conflict m a b t → IsUpTo s t

-- b is the first row that conflicts with a, and s the least snapshot on which they do
pub record IsFirstWith (m : Machine) (a b : ℕ) (s : Snapshot) : Type 0 where
  pub conflict : Conflict m a b s
  pub first_row : (d : ℕ) (t : Snapshot) → Conflict m a d t → b ≤ d
  pub least_snapshot : (t : Snapshot) → Conflict m a b t → IsUpTo s t
