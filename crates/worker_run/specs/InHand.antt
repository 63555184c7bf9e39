-- What is out of a cell.
use Rattle.std.specs.Prelude.{ℕ, Bool, false, not, ◌&&◌, ◌==◌, is_some, Option, Some, None}
use Rattle.transition_table.specs.declared.snapshot.Snapshot.{Snapshot}
use Rattle.event_buffer.specs.Cells.{CellState, firing_stamp}
use Rattle.worker_run.specs.declared.in_hand.InHand.{InHand}
use Rattle.worker_run.specs.declared.in_hand.InHand.TheVariants.{Nothing, Reaction, Deliveries}

-- a reaction of this stamp is frozen
abbrev pub is_frozen_at : ℕ → Option (ℕ × Snapshot) → Bool
is_frozen_at stamp None = false
is_frozen_at stamp (Some (own, s)) = stamp == own

-- A reaction is out exactly where the cell is frozen, by the stamp of that reaction. Deliveries are
-- out exactly where the cell is busy, by the stamp of its last firing.
abbrev pub is_in_hand : InHand → CellState → Bool
is_in_hand Nothing c = not (is_some c.frozen) && not c.busy
is_in_hand (Reaction stamp) c = is_frozen_at stamp c.frozen && not c.busy
is_in_hand (Deliveries stamp) c =
    not (is_some c.frozen) && c.busy && stamp == firing_stamp c.machine c.log
