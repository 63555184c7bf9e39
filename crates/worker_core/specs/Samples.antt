-- Runs of the core on two small networks.
use Rattle.std.specs.Prelude.{ℕ, true, false, List, [], ◌∷◌, codes, refl}
use Rattle.transition_table.specs.samples.Pong.{serving_machine, returning_machine}
use Rattle.transition_table.specs.samples.Parts.{has_codes, pure_event, network_of, machine_of}
use Rattle.transition_table.specs.declared.decl.Party.TheVariants.{Env, Machine as Sender}
use Rattle.transition_table.specs.declared.machine.Machine.{Machine}
use Rattle.transition_table.specs.declared.network.Network.{Network}
use Rattle.journals.specs.declared.entry.Entry.{Entry}
use Rattle.journals.specs.declared.entry.Entry.TheVariants.{Dep, Rea}
use Rattle.journals.specs.declared.entry.TraceItem.{TraceItem}
use Rattle.journals.specs.declared.entry.TraceItem.TheVariants.{Event}
use Rattle.journals.specs.declared.stamped.CoreStep.{CoreStep}
use Rattle.journals.specs.declared.stamped.CoreStep.TheVariants.{React, Land, Feed}

-- it fires at the event that starts the game, and emits nothing
abbrev pub looking_machine : Machine
looking_machine = machine_of (record {
  name = codes "c";
  priority = 1;
  inputs = 0 ∷ [];
  outputs = [];
  states = [];
  vars = 2 ∷ [];
  results = 2 ∷ [];
  rows = record { conds = has_codes 0 2 ∷ []; acts = []; actions = refl } ∷ [];
}) refl

-- two machines that play to each other, and one that looks on
abbrev pub pong : Network
pong = network_of (record {
  name = codes "pong";
  domains = [];
  events =
      pure_event (codes "go") Env false (0 ∷ 2 ∷ [])
      ∷ pure_event (codes "p") (Sender 0) false (1 ∷ [])
      ∷ pure_event (codes "q") (Sender 1) false (0 ∷ []) ∷ [];
  machines = serving_machine ∷ returning_machine ∷ looking_machine ∷ [];
}) refl

abbrev pub fires : ℕ → List ℕ → List ℕ → Entry
fires m codes outs =
    Rea m (record { codes = codes }) (record { fires = true; next = []; outs = outs })

abbrev pub two_steps : List CoreStep
two_steps = Feed ∷ Feed ∷ React 0 ∷ React 1 ∷ []

abbrev pub two_merged : List Entry
two_merged =
    Dep Env 0 0 1 ∷ Dep Env 1 0 1 ∷ fires 0 (1 ∷ []) (1 ∷ []) ∷ fires 1 (1 ∷ []) (1 ∷ []) ∷ []

abbrev pub pong_trace : List TraceItem
pong_trace = Event 0 1 ∷ Event 0 1 ∷ []

abbrev pub pong_steps : List CoreStep
pong_steps = Feed ∷ React 0 ∷ Feed ∷ React 2 ∷ Feed ∷ Feed ∷ React 2 ∷ Land 0 ∷ []

-- the landing at b, which was made last, stands before c's second reaction
abbrev pub pong_merged : List Entry
pong_merged =
    Dep Env 0 0 1 ∷ Dep Env 2 0 1 ∷ fires 0 (1 ∷ 0 ∷ []) (1 ∷ []) ∷ fires 2 (1 ∷ []) []
    ∷ Dep Env 0 0 1 ∷ Dep (Sender 0) 1 1 1 ∷ Dep Env 2 0 1 ∷ fires 2 (1 ∷ []) [] ∷ []
