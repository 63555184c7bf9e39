-- A machine that passes a value on, and counts round a domain.
--   domain d = 0 .. 7
--   event v : d from env; event w : d to env
--   machine m priority 0
--     input v; output w; state s : d = 6
--     when v do s := s + 3, emit w = value v
use Rattle.std.specs.Prelude.{true, false, [], ◌∷◌, codes, refl}
use Rattle.std.proofs.Common.{lit≤, lit<}
use Rattle.domains.specs.declared.domain.Domain.TheVariants.{Range}
use Rattle.transition_table.specs.declared.decl.Party.TheVariants.{Env, Machine as Sender}
use Rattle.transition_table.specs.declared.machine.Machine.{Machine}
use Rattle.transition_table.specs.declared.network.Network.{Network}
use Rattle.transition_table.specs.samples.Parts.{has_codes, copies, adds, state_of, valued_event, network_of, machine_of}

abbrev pub echo_machine : Machine
echo_machine = machine_of (record {
  name = codes "m";
  priority = 0;
  inputs = 0 ∷ [];
  outputs = 1 ∷ [];
  states = state_of (codes "s") 0 6 ∷ [];
  vars = 9 ∷ 8 ∷ [];
  results = 2 ∷ 9 ∷ 9 ∷ [];
  rows = record { conds = has_codes 0 510 ∷ []; acts = adds 1 3 ∷ copies 2 0 ∷ []; actions = refl }
      ∷ [];
}) refl

abbrev pub echo : Network
echo = network_of (record {
  name = codes "echo";
  domains = Range (record { first = 0; last = 7; ordered = lit≤ tt; few = lit< tt }) ∷ [];
  events =
      valued_event (codes "v") 0 Env false (0 ∷ [])
      ∷ valued_event (codes "w") 0 (Sender 0) true [] ∷ [];
  machines = echo_machine ∷ [];
}) refl
