-- What a worker counts of its budget.
use Rattle.std.specs.Prelude.{◌≡◌, ℕ, ◌+◌, ◌-◌, ◌<◌, ◌≤◌, length}
use Rattle.event_buffer.specs.Cells.{CellState}
use Rattle.worker_run.specs.declared.budget.Budget.{Budget}
use Rattle.worker_run.specs.declared.worker.Turn.{Turn}
use Rattle.worker_run.specs.declared.worker.Turn.TheVariants.{Went, Idle, Stopped}

-- the count is so many entries more, and within the same budget
pub record Counts (old new : Budget) (entries : ℕ) : Type 0 where
  pub used : new.used ≡ old.used + entries
  pub most : new.most ≡ old.most
  pub within : new.used ≤ old.most

-- what the cell's log has more is counted
abbrev pub CountsAppended : Budget → Budget → CellState → CellState → Type 0
CountsAppended old new before after = Counts old new (length after.log - length before.log)

-- no entry is counted back, and the count is within the same budget
pub record StaysWithin (old new : Budget) : Type 0 where
  pub up : old.used ≤ new.used
  pub most : new.most ≡ old.most
  pub within : new.used ≤ old.most

-- of a turn with so many deliveries in hand: all are counted where the worker went, and no more
-- than so many where it stopped; it isn't idle
abbrev pub CountsTurn : Budget → Budget → ℕ → Turn → Type 0
CountsTurn old new entries Went = Counts old new entries
CountsTurn old new entries Idle = ⊥
CountsTurn old new entries Stopped =
    StaysWithin old new × (new.used ≤ old.used + entries)

-- of a turn on the feed: one entry where the worker went, and else none
abbrev pub fed_count : Turn → ℕ
fed_count Went = 1
fed_count Idle = 0
fed_count Stopped = 0

-- an entry at least is counted where the worker went, and none where it was idle
abbrev pub Spends : Budget → Budget → Turn → Type 0
Spends old new Went = StaysWithin old new × (old.used < new.used)
Spends old new Idle = Counts old new 0
Spends old new Stopped = StaysWithin old new
