-- A lamp that a press turns on.
--   domain bit = { off, on }
--   event press from env; event light to env
--   machine lamp_ctl priority 1
--     input press; output light; state s : bit = off
--     when press, s = off do s := on, emit light
use Rattle.std.specs.Prelude.{true, false, [], ◌∷◌, codes, refl}
use Rattle.domains.specs.declared.domain.Domain.TheVariants.{Names}
use Rattle.transition_table.specs.declared.decl.Party.TheVariants.{Env, Machine as Sender}
use Rattle.transition_table.specs.declared.machine.Machine.{Machine}
use Rattle.transition_table.specs.declared.network.Network.{Network}
use Rattle.transition_table.specs.samples.Parts.{has_codes, gives, state_of, pure_event, network_of, machine_of}

abbrev pub lamp_machine : Machine
lamp_machine = machine_of (record {
  name = codes "lamp_ctl";
  priority = 1;
  inputs = 0 ∷ [];
  outputs = 1 ∷ [];
  states = state_of (codes "s") 0 0 ∷ [];
  vars = 2 ∷ 2 ∷ [];
  results = 2 ∷ 3 ∷ 2 ∷ [];
  rows = record {
    conds = has_codes 0 2 ∷ has_codes 1 1 ∷ [];
    acts = gives 1 2 ∷ gives 2 1 ∷ [];
    actions = refl;
  } ∷ [];
}) refl

abbrev pub lamp : Network
lamp = network_of (record {
  name = codes "lamp";
  domains = Names (codes "off" ∷ codes "on" ∷ []) ∷ [];
  events =
      pure_event (codes "press") Env false (0 ∷ [])
      ∷ pure_event (codes "light") (Sender 0) true [] ∷ [];
  machines = lamp_machine ∷ [];
}) refl
