-- Monitors of a small network, and what they do on its journals. The network has two machines that
-- read one event, and the outputs ya and yb.
use Rattle.std.specs.Prelude.{ℕ, true, false, List, [], ◌∷◌, codes, refl}
use Rattle.domains.specs.declared.domain.Domain.TheVariants.{Names}
use Rattle.transition_table.specs.samples.Parts.{gives, has_codes, machine_of, network_of, pure_event, state_of}
use Rattle.transition_table.specs.declared.decl.Party.TheVariants.{Env, Machine as Sender}
use Rattle.transition_table.specs.declared.machine.Machine.{Machine}
use Rattle.transition_table.specs.declared.network.Network.{Network}
use Rattle.journals.specs.declared.entry.Entry.{Entry}
use Rattle.journals.specs.Samples.{delivers, fires}
use Rattle.run_watch.specs.declared.answer.Watched.{Watched}
use Rattle.run_watch.specs.declared.answer.Watched.TheVariants.{Found}
use Rattle.run_watch.specs.declared.emission.Emission.{Emission}

-- A monitor that complains of ya after yb.
--   domain bit = { off, on }
--   event ya from env; event yb from env; event late to env
--   machine m priority 0
--     input ya, yb; output late; state s : bit = off
--     when yb, absent ya do s := on
--     when ya, s = off do s := off
--     when ya, s = on do emit late
abbrev pub order_machine : Machine
order_machine = machine_of (record {
  name = codes "m";
  priority = 0;
  inputs = 0 ∷ 1 ∷ [];
  outputs = 2 ∷ [];
  states = state_of (codes "s") 0 0 ∷ [];
  vars = 2 ∷ 2 ∷ 2 ∷ [];
  results = 2 ∷ 3 ∷ 2 ∷ [];
  rows =
      record {
        conds = has_codes 0 1 ∷ has_codes 1 2 ∷ [];
        acts = gives 1 2 ∷ [];
        actions = refl;
      }
      ∷ record {
        conds = has_codes 0 2 ∷ has_codes 2 1 ∷ [];
        acts = gives 1 1 ∷ [];
        actions = refl;
      }
      ∷ record {
        conds = has_codes 0 2 ∷ has_codes 2 2 ∷ [];
        acts = gives 2 1 ∷ [];
        actions = refl;
      } ∷ [];
}) refl

abbrev pub order : Network
order = network_of (record {
  name = codes "order";
  domains = Names (codes "off" ∷ codes "on" ∷ []) ∷ [];
  events =
      pure_event (codes "ya") Env false (0 ∷ [])
      ∷ pure_event (codes "yb") Env false (0 ∷ [])
      ∷ pure_event (codes "late") (Sender 0) true [] ∷ [];
  machines = order_machine ∷ [];
}) refl

-- A monitor that complains of yb.
--   event yb from env; event loud to env
--   machine m priority 0
--     input yb; output loud
--     when yb do emit loud
abbrev pub loud_machine : Machine
loud_machine = machine_of (record {
  name = codes "m";
  priority = 0;
  inputs = 0 ∷ [];
  outputs = 1 ∷ [];
  states = [];
  vars = 2 ∷ [];
  results = 2 ∷ 2 ∷ [];
  rows = record { conds = has_codes 0 2 ∷ []; acts = gives 1 1 ∷ []; actions = refl } ∷ [];
}) refl

abbrev pub loud : Network
loud = network_of (record {
  name = codes "loud";
  domains = [];
  events =
      pure_event (codes "yb") Env false (0 ∷ [])
      ∷ pure_event (codes "loud") (Sender 0) true [] ∷ [];
  machines = loud_machine ∷ [];
}) refl

-- A monitor that ya sets going for ever.
--   event ya from env; event p
--   machine m priority 0
--     input ya, p; output p
--     when ya do emit p
--     when p do emit p
abbrev pub restless_machine : Machine
restless_machine = machine_of (record {
  name = codes "m";
  priority = 0;
  inputs = 0 ∷ 1 ∷ [];
  outputs = 1 ∷ [];
  states = [];
  vars = 2 ∷ 2 ∷ [];
  results = 2 ∷ 2 ∷ [];
  rows =
      record { conds = has_codes 0 2 ∷ []; acts = gives 1 1 ∷ []; actions = refl }
      ∷ record { conds = has_codes 1 2 ∷ []; acts = gives 1 1 ∷ []; actions = refl } ∷ [];
}) refl

abbrev pub restless : Network
restless = network_of (record {
  name = codes "restless";
  domains = [];
  events =
      pure_event (codes "ya") Env false (0 ∷ [])
      ∷ pure_event (codes "p") (Sender 0) false (0 ∷ []) ∷ [];
  machines = restless_machine ∷ [];
}) refl

-- ---- journals of these

-- it is told of yb and then of ya
abbrev pub order_late : List Entry
order_late =
    delivers Env 0 1 ∷ fires 0 (0 ∷ 1 ∷ 0 ∷ []) (2 ∷ []) (0 ∷ [])
    ∷ delivers Env 0 0 ∷ fires 0 (1 ∷ 0 ∷ 1 ∷ []) (0 ∷ []) (1 ∷ []) ∷ []

-- it is told of ya and then of yb
abbrev pub order_kept : List Entry
order_kept =
    delivers Env 0 0 ∷ fires 0 (1 ∷ 0 ∷ 0 ∷ []) (1 ∷ []) (0 ∷ [])
    ∷ delivers Env 0 1 ∷ fires 0 (0 ∷ 1 ∷ 0 ∷ []) (2 ∷ []) (0 ∷ []) ∷ []

-- it is told of ya, and goes on until it is cut off
abbrev pub restless_cut : List Entry
restless_cut =
    delivers Env 0 0 ∷ fires 0 (1 ∷ 0 ∷ []) [] (1 ∷ [])
    ∷ delivers (Sender 0) 0 1 ∷ fires 0 (0 ∷ 1 ∷ []) [] (1 ∷ [])
    ∷ delivers (Sender 0) 0 1 ∷ fires 0 (0 ∷ 1 ∷ []) [] (1 ∷ []) ∷ []

-- it is told of yb
abbrev pub loud_told : List Entry
loud_told = delivers Env 0 0 ∷ fires 0 (1 ∷ []) [] (1 ∷ []) ∷ []

-- ---- what is heard

-- the monitor's event of this number, which the entry at this place emits
abbrev pub told : ℕ → ℕ → Emission
told place event = record { place = place; event = event; code = 1 }

-- ---- what is said

-- the entry at this place emits ya after yb
abbrev pub late_at : ℕ → Watched
late_at place = Found (record { place = place; event = 2; code = 1 })

-- it emits yb
abbrev pub loud_at : ℕ → Watched
loud_at place = Found (record { place = place; event = 1; code = 1 })
