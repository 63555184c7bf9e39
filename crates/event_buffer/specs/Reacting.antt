-- A reaction that is run while no lock is held.
use Rattle.std.specs.Prelude.{ℕ, ◌≤◌, List, flat_map, length}
use Rattle.transition_table.specs.Transitions.{OfMachine, IsSnapshot, HasWidths}
use Rattle.transition_table.specs.declared.network.Network.{Network}
use Rattle.transition_table.specs.declared.snapshot.Snapshot.{Snapshot}
use Rattle.transition_table.specs.declared.snapshot.Outcome.{Outcome}
use Rattle.journals.specs.declared.entry.Entry.{Entry}
use Rattle.journals.specs.declared.entry.Entry.TheVariants.{Rea}
use Rattle.journals.specs.Journals.{outputs_of}
use Rattle.journals.specs.Logs.{max_stamp}
use Rattle.journals.specs.Schedules.{receivers_of}
use Rattle.event_buffer.specs.declared.arrival.Arrival.{Arrival}

-- the machine of a network, the stamp of the reaction, what it reacts to, and the outcome so far
pub record FrozenState : Type 0 where
  pub net : Network
  pub machine : ℕ
  pub stamp : ℕ
  pub snapshot : Snapshot
  pub outcome : Outcome

-- the reaction with that outcome
abbrev pub reaction_of : FrozenState → Entry
reaction_of f = Rea f.machine f.snapshot f.outcome

-- a snapshot of the machine, room for the outcome and for all deliveries of one firing, and a
-- stamp that isn't above the greatest
pub record CanRun (net : Network) (m stamp : ℕ) (snapshot : Snapshot) (outcome : Outcome)
    (room : List Arrival) : Type 0 where
  pub snapshot_fits : OfMachine net m (λ machine. IsSnapshot machine snapshot)
  pub widths : OfMachine net m (λ machine. HasWidths machine outcome)
  pub has_room : length (flat_map (receivers_of net) (outputs_of net m)) ≤ length room
  pub small : stamp ≤ max_stamp
