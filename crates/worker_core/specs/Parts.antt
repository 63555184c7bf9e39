-- What the core's code keeps.
use Rattle.std.specs.Prelude.{◌≡◌, List, map, length, get_or, []}
use Rattle.polis_base.specs.Lists.{upto}
use Rattle.transition_table.specs.declared.network.Network.{Network}
use Rattle.transition_table.specs.declared.snapshot.Snapshot.{Snapshot}
use Rattle.journals.specs.declared.entry.TraceItem.{TraceItem}
use Rattle.journals.specs.declared.stamped.Stamped.{Stamped}
use Rattle.journals.specs.Journals.{snap}
use Rattle.journals.specs.Logs.{entries}
use Rattle.worker_core.specs.declared.parts.Parts.{Parts}
use Rattle.worker_core.specs.Cores.{CoreState}
use Rattle.worker_core.specs.Facts.{IsCore}

abbrev pub state_of : Parts → CoreState
state_of p = record { logs = p.logs; hands = p.hands.items; rest = p.rest }

-- the snapshot of each machine after its own log
abbrev pub own_moments : Network → List (List Stamped) → List Snapshot
own_moments net logs =
    map (λ m. snap net (entries (get_or logs m [])) m) (upto (length net.machines))

-- a core, and the snapshots of its machines
pub record AreParts (net : Network) (trace : List TraceItem) (p : Parts) : Type 0 where
  pub core : IsCore net trace (state_of p)
  pub moments_are : p.moments ≡ own_moments net p.logs
