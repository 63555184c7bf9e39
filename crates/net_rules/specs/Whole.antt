-- What each network has that a text declares.
use Rattle.std.specs.Prelude.{◌≡◌, ℕ, ◌≤◌, length, slice_get, Some}
use Rattle.transition_table.specs.declared.machine.Machine.{Machine}
use Rattle.transition_table.specs.declared.network.Network.{Network}

-- there is a machine, and each machine has an input
pub record HasMachines (net : Network) : Type 0 where
  pub some : 1 ≤ length net.machines
  pub inputs :
      (k : ℕ) (m : Machine)
      → slice_get net.machines k ≡ Some m
      → 1 ≤ length m.inputs
