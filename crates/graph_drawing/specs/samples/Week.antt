-- A machine that passes on the days on which nobody works, and one that rings on the last of them.
--   domain day = { mon, tue, wed, thu, fri, sat, sun }
--   event today : day from env; event rest : day to env; event ring to env
--   machine days priority 2
--     input today; output rest
--     when today in { sat, sun } do emit rest = value today
--   machine bell priority 1
--     input rest; output ring
--     when rest = sun do emit ring
use Rattle.std.specs.Prelude.{ℕ, true, false, List, [], ◌∷◌, codes, refl}
use Rattle.domains.specs.declared.domain.Domain.TheVariants.{Names}
use Rattle.transition_table.specs.declared.decl.Party.TheVariants.{Env, Machine as Sender}
use Rattle.transition_table.specs.declared.machine.Machine.{Machine}
use Rattle.transition_table.specs.declared.network.Network.{Network}
use Rattle.transition_table.specs.samples.Parts.{has_codes, gives, copies, pure_event, valued_event, network_of, machine_of}

abbrev pub day_names : List (List ℕ)
day_names =
    codes "mon" ∷ codes "tue" ∷ codes "wed" ∷ codes "thu" ∷ codes "fri" ∷ codes "sat"
    ∷ codes "sun" ∷ []

abbrev pub days_machine : Machine
days_machine = machine_of (record {
  name = codes "days";
  priority = 2;
  inputs = 0 ∷ [];
  outputs = 1 ∷ [];
  states = [];
  vars = 8 ∷ [];
  results = 2 ∷ 8 ∷ [];
  rows = record { conds = has_codes 0 192 ∷ []; acts = copies 1 0 ∷ []; actions = refl } ∷ [];
}) refl

abbrev pub bell_machine : Machine
bell_machine = machine_of (record {
  name = codes "bell";
  priority = 1;
  inputs = 1 ∷ [];
  outputs = 2 ∷ [];
  states = [];
  vars = 8 ∷ [];
  results = 2 ∷ 2 ∷ [];
  rows = record { conds = has_codes 0 128 ∷ []; acts = gives 1 1 ∷ []; actions = refl } ∷ [];
}) refl

abbrev pub week : Network
week = network_of (record {
  name = codes "week";
  domains = Names day_names ∷ [];
  events =
      valued_event (codes "today") 0 Env false (0 ∷ [])
      ∷ valued_event (codes "rest") 0 (Sender 0) true (1 ∷ [])
      ∷ pure_event (codes "ring") (Sender 1) true [] ∷ [];
  machines = days_machine ∷ bell_machine ∷ [];
}) refl
