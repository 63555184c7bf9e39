-- Two machines that go on for ever.
--   event go from env; event p; event q
--   machine a priority 1
--     input go, q; output p
--     when go do emit p
--     when q do emit p
--   machine b priority 1
--     input p; output q
--     when p do emit q
use Rattle.std.specs.Prelude.{false, [], ◌∷◌, codes, refl}
use Rattle.transition_table.specs.declared.decl.Party.TheVariants.{Env, Machine as Sender}
use Rattle.transition_table.specs.declared.machine.Machine.{Machine}
use Rattle.transition_table.specs.declared.network.Network.{Network}
use Rattle.transition_table.specs.samples.Parts.{has_codes, gives, pure_event, network_of, machine_of}

abbrev pub serving_machine : Machine
serving_machine = machine_of (record {
  name = codes "a";
  priority = 1;
  inputs = 0 ∷ 2 ∷ [];
  outputs = 1 ∷ [];
  states = [];
  vars = 2 ∷ 2 ∷ [];
  results = 2 ∷ 2 ∷ [];
  rows =
      record { conds = has_codes 0 2 ∷ []; acts = gives 1 1 ∷ []; actions = refl }
      ∷ record { conds = has_codes 1 2 ∷ []; acts = gives 1 1 ∷ []; actions = refl } ∷ [];
}) refl

abbrev pub returning_machine : Machine
returning_machine = machine_of (record {
  name = codes "b";
  priority = 1;
  inputs = 1 ∷ [];
  outputs = 2 ∷ [];
  states = [];
  vars = 2 ∷ [];
  results = 2 ∷ 2 ∷ [];
  rows = record { conds = has_codes 0 2 ∷ []; acts = gives 1 1 ∷ []; actions = refl } ∷ [];
}) refl

abbrev pub pong : Network
pong = network_of (record {
  name = codes "pong";
  domains = [];
  events =
      pure_event (codes "go") Env false (0 ∷ [])
      ∷ pure_event (codes "p") (Sender 0) false (1 ∷ [])
      ∷ pure_event (codes "q") (Sender 1) false (0 ∷ []) ∷ [];
  machines = serving_machine ∷ returning_machine ∷ [];
}) refl
