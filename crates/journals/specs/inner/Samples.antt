-- Entries of small networks, and those networks.
use Rattle.transition_table.specs.samples.Lamp.{lamp_machine}
use Rattle.transition_table.specs.declared.machine.Machine.{Machine}

-- the networks whose runs stand in Runs
abbrev pub lamp_ctl : Machine
lamp_ctl = lamp_machine
