-- Two machines that read one event.
--   event x from env; event ya to env; event yb to env
--   machine a
--     input x; output ya
--     when x do emit ya
--   machine b
--     input x; output yb
--     when x do emit yb
use Rattle.std.specs.Prelude.{ℕ, true, false, List, [], ◌∷◌, codes, refl}
use Rattle.transition_table.specs.declared.decl.Party.TheVariants.{Env, Machine as Sender}
use Rattle.transition_table.specs.declared.machine.Machine.{Machine}
use Rattle.transition_table.specs.declared.network.Network.{Network}
use Rattle.transition_table.specs.samples.Parts.{has_codes, gives, pure_event, network_of, machine_of}

-- of this name and priority, with this event as its output
abbrev pub two_machine : List ℕ → ℕ → ℕ → Machine
two_machine name priority out = machine_of (record {
  name = name;
  priority = priority;
  inputs = 0 ∷ [];
  outputs = out ∷ [];
  states = [];
  vars = 2 ∷ [];
  results = 2 ∷ 2 ∷ [];
  rows = record { conds = has_codes 0 2 ∷ []; acts = gives 1 1 ∷ []; actions = refl } ∷ [];
}) refl

-- with these priorities of a and b
abbrev pub two : ℕ → ℕ → Network
two first second = network_of (record {
  name = codes "two";
  domains = [];
  events =
      pure_event (codes "x") Env false (0 ∷ 1 ∷ [])
      ∷ pure_event (codes "ya") (Sender 0) true []
      ∷ pure_event (codes "yb") (Sender 1) true [] ∷ [];
  machines = two_machine (codes "a") first 1 ∷ two_machine (codes "b") second 2 ∷ [];
}) refl
