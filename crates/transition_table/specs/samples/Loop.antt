-- A machine that reads what it emits.
--   domain n = 0 .. 3
--   event go from env; event x
--   machine m priority 0
--     input go, x; output x; state c : n = 0
--     when go, c = 0 do c := 1, emit x
--     when x, c = 1 do c := 2, emit x
--     when x, c = 2 do c := 3
use Rattle.std.specs.Prelude.{false, [], ◌∷◌, codes, refl}
use Rattle.std.proofs.Common.{lit≤, lit<}
use Rattle.domains.specs.declared.domain.Domain.TheVariants.{Range}
use Rattle.transition_table.specs.declared.decl.Party.TheVariants.{Env, Machine as Sender}
use Rattle.transition_table.specs.declared.machine.Machine.{Machine}
use Rattle.transition_table.specs.declared.network.Network.{Network}
use Rattle.transition_table.specs.samples.Parts.{has_codes, gives, state_of, pure_event, network_of, machine_of}

abbrev pub loop_machine : Machine
loop_machine = machine_of (record {
  name = codes "m";
  priority = 0;
  inputs = 0 ∷ 1 ∷ [];
  outputs = 1 ∷ [];
  states = state_of (codes "c") 0 0 ∷ [];
  vars = 2 ∷ 2 ∷ 4 ∷ [];
  results = 2 ∷ 5 ∷ 2 ∷ [];
  rows =
      record {
        conds = has_codes 0 2 ∷ has_codes 2 1 ∷ [];
        acts = gives 1 2 ∷ gives 2 1 ∷ [];
        actions = refl;
      }
      ∷ record {
        conds = has_codes 1 2 ∷ has_codes 2 2 ∷ [];
        acts = gives 1 3 ∷ gives 2 1 ∷ [];
        actions = refl;
      }
      ∷ record { conds = has_codes 1 2 ∷ has_codes 2 4 ∷ []; acts = gives 1 4 ∷ []; actions = refl }
      ∷ [];
}) refl

abbrev pub loop : Network
loop = network_of (record {
  name = codes "loop";
  domains = Range (record { first = 0; last = 3; ordered = lit≤ tt; few = lit< tt }) ∷ [];
  events =
      pure_event (codes "go") Env false (0 ∷ [])
      ∷ pure_event (codes "x") (Sender 0) false (0 ∷ []) ∷ [];
  machines = loop_machine ∷ [];
}) refl
