-- What is gathered.
use Rattle.std.specs.Prelude.{◌≡◌, ◌≤◌, ℕ, List, get_or, length, []}
use Rattle.transition_table.specs.declared.network.Network.{Network}
use Rattle.journals.specs.declared.stamped.Stamped.{Stamped}
use Rattle.journals.specs.declared.entry.TraceItem.{TraceItem}
use Rattle.journals.specs.Alone.{LegalAlone}
use Rattle.net_core.specs.Moments.{Moment}

-- the log of each machine is legal by itself
abbrev pub AreAlone : Network → List (List Stamped) → Type 0
AreAlone net logs = (m : ℕ) → LegalAlone net m (get_or logs m [])

-- a configuration of the network and the trace, with no more entries than were merged, which are no
-- more than the limit
pub record IsFound (net : Network) (trace : List TraceItem) (limit : ℕ) (config : Moment)
    (merged : ℕ) : Type 0 where
  pub network : config.net ≡ net
  pub trace_is : config.trace ≡ trace
  pub most : (length config.journal ≤ merged) × (merged ≤ limit)
