-- A machine that reads a value.
--   domain d = 0 .. 7
--   event v : d from env; event hit to env
--   machine m priority 0
--     input v; output hit
--     when v = 5 do emit hit
use Rattle.std.specs.Prelude.{ℕ, true, false, [], ◌∷◌, codes, refl}
use Rattle.std.proofs.Common.{lit≤, lit<}
use Rattle.domains.specs.declared.domain.Domain.TheVariants.{Range}
use Rattle.transition_table.specs.declared.decl.Party.TheVariants.{Env, Machine as Sender}
use Rattle.transition_table.specs.declared.machine.Machine.{Machine}
use Rattle.transition_table.specs.declared.network.Network.{Network}
use Rattle.transition_table.specs.samples.Parts.{has_codes, gives, pure_event, valued_event, Table, Declared, network_of, machine_of}

-- the table of a machine that emits on these codes of what it reads
abbrev pub value_table : ℕ → Table
value_table codes_read = record {
  name = codes "m";
  priority = 0;
  inputs = 0 ∷ [];
  outputs = 1 ∷ [];
  states = [];
  vars = 9 ∷ [];
  results = 2 ∷ 2 ∷ [];
  rows = record { conds = has_codes 0 codes_read ∷ []; acts = gives 1 1 ∷ []; actions = refl } ∷ [];
}

-- a network of such a machine
abbrev pub value_declared : Machine → Declared
value_declared machine = record {
  name = codes "val";
  domains = Range (record { first = 0; last = 7; ordered = lit≤ tt; few = lit< tt }) ∷ [];
  events =
      valued_event (codes "v") 0 Env false (0 ∷ [])
      ∷ pure_event (codes "hit") (Sender 0) true [] ∷ [];
  machines = machine ∷ [];
}

abbrev pub value_machine : Machine
value_machine = machine_of (value_table 64) refl

abbrev pub value : Network
value = network_of (value_declared value_machine) refl
