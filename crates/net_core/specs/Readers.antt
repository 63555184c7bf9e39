-- For each event the set of the machines that read it.
use Rattle.std.specs.Prelude.{◌≡◌, ℕ, ◌<◌, List, length, get_or}
use Rattle.polis_base.specs.Sets.{members}
use Rattle.transition_table.specs.declared.network.Network.{Network}
use Rattle.journals.specs.Schedules.{receivers_of}

-- the sets are those of the receivers of the network's events
pub record AreReaders (net : Network) (sets : List ℕ) : Type 0 where
  pub long : length sets ≡ length net.events
  pub are : (e : ℕ) → e < length net.events → members (get_or sets e 0) ≡ receivers_of net e
