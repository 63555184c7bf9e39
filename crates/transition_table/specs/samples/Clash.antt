-- A machine whose first and last row conflict.
--   event a from env; event b from env; event c to env
--   machine m priority 0
--     input a, b; output c
--     when a do emit c
--     when b, absent a do nothing
--     when a, b do nothing
use Rattle.std.specs.Prelude.{true, false, [], ◌∷◌, codes, refl}
use Rattle.transition_table.specs.declared.decl.Party.TheVariants.{Env, Machine as Sender}
use Rattle.transition_table.specs.declared.machine.Machine.{Machine}
use Rattle.transition_table.specs.declared.network.Network.{Network}
use Rattle.transition_table.specs.samples.Parts.{has_codes, gives, pure_event, network_of, machine_of}

abbrev pub clash_machine : Machine
clash_machine = machine_of (record {
  name = codes "m";
  priority = 0;
  inputs = 0 ∷ 1 ∷ [];
  outputs = 2 ∷ [];
  states = [];
  vars = 2 ∷ 2 ∷ [];
  results = 2 ∷ 2 ∷ [];
  rows =
      record { conds = has_codes 0 2 ∷ []; acts = gives 1 1 ∷ []; actions = refl }
      ∷ record { conds = has_codes 1 2 ∷ has_codes 0 1 ∷ []; acts = []; actions = refl }
      ∷ record { conds = has_codes 0 2 ∷ has_codes 1 2 ∷ []; acts = []; actions = refl } ∷ [];
}) refl

abbrev pub clash : Network
clash = network_of (record {
  name = codes "clash";
  domains = [];
  events =
      pure_event (codes "a") Env false (0 ∷ [])
      ∷ pure_event (codes "b") Env false (0 ∷ [])
      ∷ pure_event (codes "c") (Sender 0) true [] ∷ [];
  machines = clash_machine ∷ [];
}) refl
