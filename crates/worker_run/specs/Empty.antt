-- A network with nothing in it.
use Rattle.std.specs.Prelude.{[], refl}
use Rattle.transition_table.specs.declared.network.Network.{Network}
use Rattle.transition_table.specs.samples.Parts.{network_of}

abbrev pub empty : Network
empty = network_of (record {
  name = [];
  domains = [];
  events = [];
  machines = [];
}) refl
