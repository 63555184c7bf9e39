-- What the two texts of a seed are together.
use Rattle.std.specs.Prelude.{◌≡◌, ℕ, ◌≤◌, List, length, Ok}
use Rattle.polis_base.specs.declared.limits.TheConstants.{ENTRIES_MAX}
use Rattle.transition_table.specs.Transitions.{AreDeterministic}
use Rattle.transition_table.specs.declared.network.Network.{Network}
use Rattle.journals.specs.declared.entry.Entry.{Entry}
use Rattle.journals.specs.declared.entry.TraceItem.{TraceItem}
use Rattle.journals.specs.Legality.{Complete, Legal}
use Rattle.journals.specs.Schedules.{IsSchedule}
use Rattle.net_reader.specs.Places.{Declares}
use Rattle.net_rules.specs.NetOf.{NetOf}
use Rattle.net_rules.specs.Networks.{IsNetworkOf}
use Rattle.trace_text.specs.Traces.{trace_of}
use Rattle.net_gen.specs.Networks.{network}
use Rattle.net_gen.specs.Traces.{trace_text}

-- the declarations of each seed give a network
abbrev pub SeedsHaveNetwork : Type 0
SeedsHaveNetwork = (seed : ℕ) → (net : Network) × IsNetworkOf (network seed) net

-- the texts are those of a network whose machines are deterministic, and of a trace of it on which
-- legal journals are short and the scheduler's is complete
pub record AreWhole (net_text trace_bytes : List ℕ) : Type 0 where
  pub net : Network
  pub trace : List TraceItem
  pub declared : NetOf net_text net
  pub deterministic : AreDeterministic net
  pub read : trace_of net trace_bytes ≡ Ok trace
  pub short : (journal : List Entry) → Legal net trace journal → length journal ≤ 36000
  pub complete : (journal : List Entry) → IsSchedule net trace ENTRIES_MAX journal
      → Complete net trace journal

-- each text that declares the network of a seed, with the seed's trace text
abbrev pub SeedsAreWhole : Type 0
SeedsAreWhole = (seed : ℕ) (text : List ℕ) → Declares text (network seed)
    → AreWhole text (trace_text seed)
