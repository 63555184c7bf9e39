-- What a cell stands for, and what it keeps. One reaction in its log may wait for its outcome.
use Rattle.std.specs.Prelude.{◌≡◌, ℕ, ◌+◌, ◌<◌, Bool, true, false, ◌||◌, List, [], ◌∷◌, ◌++◌, map, filter, length, take, slice_set, is_some, Option, Some, None, ⊤}
use Rattle.polis_base.specs.Lists.{last_of}
use Rattle.transition_table.specs.Transitions.{AreDeterministic}
use Rattle.transition_table.specs.declared.network.Network.{Network}
use Rattle.transition_table.specs.declared.snapshot.Snapshot.{Snapshot}
use Rattle.journals.specs.declared.entry.Entry.{Entry}
use Rattle.journals.specs.declared.entry.Entry.TheVariants.{Dep, Rea}
use Rattle.journals.specs.declared.stamped.Stamped.{Stamped}
use Rattle.journals.specs.Alone.{LegalAlone}
use Rattle.journals.specs.Journals.{is_firing_of, is_woken, snap}
use Rattle.journals.specs.Logs.{clock, entries, stamped}
use Rattle.journals.specs.Reactions.{outcome_in}
use Rattle.worker_core.specs.Cores.{reacting, landing}
use Rattle.event_buffer.specs.declared.arrival.Arrival.{Arrival}
use Rattle.event_buffer.specs.declared.look.Look.{Look}
use Rattle.event_buffer.specs.declared.look.Look.TheVariants.{Ready, Busy, Quiet}
use Rattle.event_buffer.specs.declared.pending.Pending.{Pending}
use Rattle.event_buffer.specs.Arrivals.{owed_of}
use Rattle.event_buffer.specs.Reacting.{FrozenState}

-- ---- what a cell stands for

-- A network, the number of a machine, the machine's log, in which each reaction has its outcome,
-- whether deliveries of its last firing are under way, and of a frozen reaction the stamp and the
-- snapshot.
pub record CellState : Type 0 where
  pub net : Network
  pub machine : ℕ
  pub log : List Stamped
  pub busy : Bool
  pub frozen : Option (ℕ × Snapshot)

abbrev pub look_of : Bool → Bool → Look
look_of true woken = Busy
look_of false true = Ready
look_of false false = Quiet

-- Busy where it is busy or frozen, else Ready where its machine is woken, else Quiet
abbrev pub look : CellState → Look
look c = look_of (c.busy || is_some c.frozen) (is_woken (entries c.log) c.machine)

-- The core's reaction is appended, with the outcome of the machine's transition. It is frozen: it
-- gives nothing yet.
abbrev pub freezing : CellState → CellState
freezing c = record c {
  log = c.log ++ reacting c.net c.machine c.log ∷ [];
  frozen = Some (clock c.log + 1, snap c.net (entries c.log) c.machine);
}

-- the core's landing is appended
abbrev pub taking : CellState → Arrival → CellState
taking c a = record c { log = c.log ++ landing c.log a.stamp (owed_of a) ∷ [] }

-- the stamp of m's last firing, or 0
abbrev pub firing_stamp : ℕ → List Stamped → ℕ
firing_stamp m log = clock (filter (λ x. is_firing_of m x.entry) log)

abbrev pub reaction_in : ℕ → Entry → Option (ℕ × Snapshot)
reaction_in stamp (Dep s m event code) = None
reaction_in stamp (Rea m s o) = Some (stamp, s)

-- the stamp and the snapshot of the last reaction, if there is one
abbrev pub last_reaction : List Stamped → Option (ℕ × Snapshot)
last_reaction log =
    last_of {X = Option (ℕ × Snapshot)} None
    (filter is_some (map (λ (x : Stamped). reaction_in x.stamp x.entry) log))

-- the reaction is the one that is frozen in this cell
abbrev pub IsFrozenIn : CellState → FrozenState → Type 0
IsFrozenIn c f = (c.frozen ≡ Some (f.stamp, f.snapshot)) × (f.machine ≡ c.machine)

-- ---- what it keeps

-- the pending reaction, which is to the snapshot that is kept, with the outcome of the transition
abbrev pub decided : Network → ℕ → Snapshot → Pending → Stamped
decided net m moment p = stamped p.stamp (Rea m moment (outcome_in net m moment))

-- the log, in which the pending reaction has that outcome
abbrev pub filled : Network → ℕ → Snapshot → Option Pending → List Stamped → List Stamped
filled net m moment None log = log
filled net m moment (Some p) log = slice_set log p.place (decided net m moment p)

-- the entries before the pending reaction, or all
abbrev pub before : Option Pending → List Stamped → List Stamped
before None log = log
before (Some p) log = take p.place log

abbrev pub frozen_of : Snapshot → Option Pending → Option (ℕ × Snapshot)
frozen_of moment None = None
frozen_of moment (Some p) = Some (p.stamp, moment)

-- so it stands for this
abbrev pub shown :
    Network → ℕ → Snapshot → Bool → Option Pending → List Stamped → CellState
shown net m moment busy pending log = record {
  net = net;
  machine = m;
  log = filled net m moment pending log;
  busy = busy;
  frozen = frozen_of moment pending;
}

-- it has an entry in the log
abbrev pub IsPending : Option Pending → List Stamped → Type 0
IsPending None log = ⊤
IsPending (Some p) log = p.place < length log

-- it is the log's last reaction, and where it fires it is the machine's last firing
abbrev pub IsLast : Network → ℕ → Option (ℕ × Snapshot) → List Stamped → Type 0
IsLast net m None log = ⊤
IsLast net m (Some (stamp, s)) log =
    (last_reaction log ≡ Some (stamp, s))
    × ((outcome_in net m s).fires ≡ true → firing_stamp m log ≡ stamp)

-- The log with its outcomes is legal by itself. The snapshot that is kept is the one after the
-- entries before the pending reaction; waking and clock are those of the whole log.
pub record IsCell (net : Network) (machine : ℕ) (moment : Snapshot) (woken : Bool) (time : ℕ)
    (pending : Option Pending) (log : List Stamped) : Type 0 where
  pub exists : machine < length net.machines
  pub deterministic : AreDeterministic net
  pub legal : LegalAlone net machine (filled net machine moment pending log)
  pub moment_is : moment ≡ snap net (entries (before pending log)) machine
  pub woken_is : woken ≡ is_woken (entries (filled net machine moment pending log)) machine
  pub time_is : time ≡ clock (filled net machine moment pending log)
  pub pending_is : IsPending pending log
  pub last_is :
      IsLast net machine (frozen_of moment pending) (filled net machine moment pending log)
