-- What a core stands for.
use Rattle.std.specs.Prelude.{List}
use Rattle.transition_table.specs.declared.network.Network.{Network}
use Rattle.journals.specs.declared.entry.TraceItem.{TraceItem}
use Rattle.worker_core.specs.Cores.{CoreState}

-- a network, a trace, and the state of the core
pub record CoreMoment : Type 0 where
  pub net : Network
  pub trace : List TraceItem
  pub state : CoreState
