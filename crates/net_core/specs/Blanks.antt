-- Outcomes to write into.
use Rattle.std.specs.Prelude.{◌≡◌, ℕ, List, length, slice_get, Some}
use Rattle.transition_table.specs.Transitions.{HasWidths}
use Rattle.transition_table.specs.declared.machine.Machine.{Machine}
use Rattle.transition_table.specs.declared.network.Network.{Network}
use Rattle.transition_table.specs.declared.snapshot.Outcome.{Outcome}

-- one for each machine, of its widths
pub record AreWide (net : Network) (outcomes : List Outcome) : Type 0 where
  pub many : length outcomes ≡ length net.machines
  pub wide :
      (m : ℕ) (machine : Machine) (o : Outcome) → slice_get net.machines m ≡ Some machine
      → slice_get outcomes m ≡ Some o → HasWidths machine o
