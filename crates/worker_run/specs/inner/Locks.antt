-- What the calls under a lock do to what lies there, with their answers.
use Rattle.std.specs.Prelude.{◌≡◌, ◌<◌, ◌↔◌, Bool, true, false, [], length, drop, max, Option, Some, None, option_map}
use Rattle.polis_base.specs.Lists.{head_of}
use Rattle.journals.specs.Logs.{clock, max_stamp}
use Rattle.event_buffer.specs.declared.arrival.Arrival.{Arrival}
use Rattle.event_buffer.specs.declared.look.CellError.TheVariants.{ClockFull}
use Rattle.event_buffer.specs.declared.look.Look.TheVariants.{Ready}
use Rattle.event_buffer.specs.Arrivals.{OutgoingState, arrival_of}
use Rattle.event_buffer.specs.Cells.{CellState, look, freezing, taking, IsFrozenIn}
use Rattle.event_buffer.specs.Feeds.{FeedState}
use Rattle.event_buffer.specs.Reacting.{FrozenState}
use Rattle.worker_run.specs.declared.in_hand.InHand.{InHand}
use Rattle.worker_run.specs.declared.in_hand.InHand.TheVariants.{Nothing, Reaction, Deliveries}
use Rattle.worker_run.specs.declared.locked.Tried.{Tried}
use Rattle.worker_run.specs.declared.locked.Tried.TheVariants.{Idle, Frozen, Failed as NotFrozen}
use Rattle.worker_run.specs.declared.locked.Settled.{Settled}
use Rattle.worker_run.specs.declared.locked.Settled.TheVariants.{Elsewhere as NotSettled, Silent, Sending}
use Rattle.worker_run.specs.declared.locked.Landed.{Landed}
use Rattle.worker_run.specs.declared.locked.Landed.TheVariants.{Yes, Elsewhere, Failed}
use Rattle.worker_run.specs.inner.Tries.{arrivals_of}

-- a cell, and what is out of it
pub record UnderLock : Type 0 where
  pub cell : CellState
  pub hand : InHand

-- A cell that isn't ready stays. Of one that is, the reaction is appended and frozen, and is out by
-- its stamp; where there is no stamp or no memory for it the cell stays.
abbrev pub Freezes : UnderLock → UnderLock → Tried → Type 0
Freezes old new Idle = (look old.cell ≡ Ready → ⊥) × (new ≡ old)
Freezes old new (Frozen f) =
    (look old.cell ≡ Ready)
    × (new ≡ record { cell = freezing old.cell; hand = Reaction f.stamp })
    × (f.machine ≡ old.cell.machine)
    × (new.cell.frozen ≡ Some (f.stamp, f.snapshot))
Freezes old new (NotFrozen e) =
    (look old.cell ≡ Ready) × (new ≡ old) × ((e ≡ ClockFull) ↔ (clock old.cell.log ≡ max_stamp))

-- Another cell's reaction leaves the cell as it is. The cell's own one is no longer frozen. The log
-- stays, and the cell is busy exactly where the reaction gives deliveries, all of which are handed
-- on.
abbrev pub Settles : FrozenState → UnderLock → UnderLock → Settled → Type 0
Settles f old new NotSettled = (IsFrozenIn old.cell f → ⊥) × (new ≡ old)
Settles f old new Silent =
    IsFrozenIn old.cell f
    × (new ≡ record { cell = record old.cell { frozen = None; busy = false }; hand = Nothing })
    × (arrivals_of f ≡ [])
Settles f old new (Sending out) =
    IsFrozenIn old.cell f
    × (new
    ≡ record { cell = record old.cell { frozen = None; busy = true }; hand = Deliveries f.stamp })
    × (out ≡ record { machine = f.machine; stamp = f.stamp; arrivals = arrivals_of f })
    × (0 < length (arrivals_of f))

-- A delivery to another machine leaves the cell as it is. One to this machine is appended; where
-- there is no stamp or no memory for it the cell stays.
abbrev pub Lands : Arrival → UnderLock → UnderLock → Landed → Type 0
Lands a old new Yes =
    (a.to ≡ old.cell.machine) × (new ≡ record old { cell = taking old.cell a })
Lands a old new Elsewhere = (a.to ≡ old.cell.machine → ⊥) × (new ≡ old)
Lands a old new (Failed e) =
    (a.to ≡ old.cell.machine)
    × (new ≡ old)
    × ((e ≡ ClockFull) ↔ (max (clock old.cell.log) a.stamp ≡ max_stamp))

-- the deliveries are those that are out of this cell
abbrev pub IsOutOf : UnderLock → OutgoingState → Type 0
IsOutOf old out = (old.cell.machine ≡ out.machine) × (old.hand ≡ Deliveries out.stamp)

-- The cell's own firing ends: the cell is no longer busy, and nothing is out. Another one leaves
-- the cell as it is.
abbrev pub Releases : OutgoingState → UnderLock → UnderLock → Bool → Type 0
Releases out old new true =
    IsOutOf old out
    × (new ≡ record { cell = record old.cell { busy = false }; hand = Nothing })
Releases out old new false = (IsOutOf old out → ⊥) × (new ≡ old)

-- the next of the environment's deliveries, if one is left
abbrev pub Gives : FeedState → Option Arrival → Type 0
Gives feed answer = answer ≡ option_map (arrival_of 0) (head_of feed.left)

-- it is taken away
abbrev pub Takes : FeedState → FeedState → Type 0
Takes old new = new ≡ record old { left = drop 1 old.left }
