-- Machines of declarations with their names numbered.
use Rattle.std.specs.Prelude.{◌≡◌, List}
use Rattle.std.specs.List.{AllZip}
use Rattle.net_reader.specs.declared.raw.RawMachine.{RawMachine}
use Rattle.net_reader.specs.declared.raw.RawNet.{RawNet}
use Rattle.net_names.specs.declared.machine_names.MachineNames.{MachineNames}

-- the names of this machine of the network
abbrev pub IsMachineNames : RawNet → RawMachine → MachineNames → Type 0
IsMachineNames net m names = (names.scope.now.raw.now ≡ net) × (names.machine.now ≡ m)

-- those of each of these machines
abbrev pub AreMachineNames : RawNet → List RawMachine → List MachineNames → Type 0
AreMachineNames net machines list = AllZip (IsMachineNames net) machines list
