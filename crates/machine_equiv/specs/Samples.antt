-- Small machines and networks that are compared.
use Rattle.std.specs.Prelude.{take, refl}
use Rattle.transition_table.specs.samples.Twice.{twice_rows, twice_table}
use Rattle.transition_table.specs.samples.Value.{value_declared, value_table}
use Rattle.transition_table.specs.declared.machine.Machine.{Machine}
use Rattle.transition_table.specs.declared.network.Network.{Network}
use Rattle.transition_table.specs.samples.Parts.{network_of, machine_of}

-- input v : 0 .. 7; output hit
-- when v = 6 do emit hit
abbrev pub six_machine : Machine
six_machine = machine_of (value_table 128) refl

abbrev pub six : Network
six = network_of (value_declared six_machine) refl

-- input v : 0 .. 7; output w : 0 .. 7
-- when v do emit w = value v
abbrev pub passing_machine : Machine
passing_machine =
    machine_of (record (twice_table 2) { priority = 3; rows = take 1 (twice_rows 2) }) refl
