-- The least conflict of a machine.
use Rattle.std.specs.Prelude.{◌≡◌, ◌⊎◌, ◌<◌, ◌≤◌, ℕ, Result, Ok, Err, ⊤}
use Rattle.transition_table.specs.declared.machine.Machine.{Machine}
use Rattle.transition_table.specs.declared.snapshot.Snapshot.{Snapshot}
use Rattle.transition_table.specs.Transitions.{Conflict, IsDeterministic}
use Rattle.determinism.specs.SnapshotOrder.{IsUpTo}
use Rattle.determinism.specs.declared.fault.CheckFault.{CheckFault}
use Rattle.determinism.specs.declared.fault.CheckFault.TheVariants.{Conflict as Found, NoMemory}

-- the two rows conflict on the snapshot; each pair that conflicts is this one or stands after it;
-- and on each snapshot on which these two conflict is this one or stands after it
pub record IsLeastConflict (m : Machine) (a b : ℕ) (s : Snapshot) : Type 0 where
  pub conflict : Conflict m a b s
  pub least_pair : (c d : ℕ) (t : Snapshot) → Conflict m c d t → (a < c) ⊎ ((a ≡ c) × (b ≤ d))
  pub least_snapshot : (t : Snapshot) → Conflict m a b t → IsUpTo s t

-- Ok where the machine is deterministic, and else its least conflict; running out of memory is free
abbrev pub Answers : Machine → Result (Unit {0}) CheckFault → Type 0
Answers m (Ok done) = IsDeterministic m
Answers m (Err (Found a b s)) = IsLeastConflict m a b s
Answers m (Err NoMemory) = ⊤
