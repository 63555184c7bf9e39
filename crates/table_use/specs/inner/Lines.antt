-- The machines that lines are written of.
use Rattle.std.specs.Prelude.{◌≡◌, ℕ, slice_get, Some}
use Rattle.transition_table.specs.declared.machine.Machine.{Machine}
use Rattle.transition_table.specs.declared.network.Network.{Network}

-- the machine is one of the network's
abbrev pub StandsIn : Network → Machine → Type 0
StandsIn net machine = (m : ℕ) × (slice_get net.machines m ≡ Some machine)
