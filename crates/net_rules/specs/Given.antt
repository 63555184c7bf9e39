-- Small texts, and a network that one of them gives.
use Rattle.std.specs.Prelude.{ℕ, true, false, List, [], ◌∷◌, flat_map, codes, refl}
use Rattle.std.proofs.Common.{lit≤}
use Rattle.polis_base.specs.Lines.{line}
use Rattle.domains.specs.declared.domain.Domain.TheVariants.{Names, Range}
use Rattle.transition_table.specs.declared.decl.Party.TheVariants.{Env, Machine as Sender}
use Rattle.transition_table.specs.declared.network.Network.{Network}
use Rattle.transition_table.specs.declared.machine.Machine.{Machine}
use Rattle.transition_table.specs.samples.Parts.{has_codes, gives, state_of, pure_event, valued_event, network_of, machine_of}

-- a seat belt controller with its timer
abbrev pub belt_text : List ℕ
belt_text = flat_map line (
    codes "network belt version 1"
    ∷ codes "domain mode = { off, wait, alarm }"
    ∷ codes "domain count = 0 .. 10"
    ∷ codes "event key_on from env"
    ∷ codes "event key_off from env"
    ∷ codes "event belt_on from env"
    ∷ codes "event tick from env"
    ∷ codes "event start"
    ∷ codes "event end5"
    ∷ codes "event end10"
    ∷ codes "event alarm_on to env"
    ∷ codes "event alarm_off to env"
    ∷ codes "machine belt priority 1 {"
    ∷ codes "  input key_on, key_off, belt_on, end5, end10"
    ∷ codes "  output start, alarm_on, alarm_off"
    ∷ codes "  state s : mode = off"
    ∷ codes "  when key_on, absent key_off, s = off do s := wait, emit start"
    ∷ codes "  when key_off, s = off do nothing"
    ∷ codes "  when key_off, s = wait do s := off"
    ∷ codes "  when belt_on, s = wait do s := off"
    ∷ codes "  when end5, absent key_off, absent belt_on, s = wait do s := alarm, emit alarm_on"
    ∷ codes "  when key_off, s = alarm do s := off, emit alarm_off"
    ∷ codes "  when belt_on, s = alarm do s := off, emit alarm_off"
    ∷ codes "  when end10, s = alarm do s := off, emit alarm_off"
    ∷ codes "}"
    ∷ codes "machine timer priority 2 {"
    ∷ codes "  input start, tick"
    ∷ codes "  output end5, end10"
    ∷ codes "  state n : count = 10"
    ∷ codes "  when start do n := 0"
    ∷ codes "  when tick, absent start, n = 0 do n := 1"
    ∷ codes "  when tick, absent start, n = 1 do n := 2"
    ∷ codes "  when tick, absent start, n = 2 do n := 3"
    ∷ codes "  when tick, absent start, n = 3 do n := 4"
    ∷ codes "  when tick, absent start, n = 4 do n := 5, emit end5"
    ∷ codes "  when tick, absent start, n = 5 do n := 6"
    ∷ codes "  when tick, absent start, n = 6 do n := 7"
    ∷ codes "  when tick, absent start, n = 7 do n := 8"
    ∷ codes "  when tick, absent start, n = 8 do n := 9"
    ∷ codes "  when tick, absent start, n = 9 do n := 10, emit end10"
    ∷ codes "  when tick, absent start, n = 10 do nothing"
    ∷ codes "}"
    ∷ [])

-- values of both kinds in conditions and actions
abbrev pub mix_text : List ℕ
mix_text = flat_map line (
    codes "network mix version 1"
    ∷ codes "domain lane = { left, middle, right }"
    ∷ codes "domain speed = 3 .. 9"
    ∷ codes "event go from env"
    ∷ codes "event pace : speed from env"
    ∷ codes "event turn : lane"
    ∷ codes "event done : lane to env"
    ∷ codes "machine first priority 7 {"
    ∷ codes "  input go, pace"
    ∷ codes "  output turn"
    ∷ codes "  state s : lane = middle"
    ∷ codes "  state v : speed = 4"
    ∷ codes "  when go, s in { left, right, left }, pace = 9"
    ∷ codes "  do s := middle, v := 3, emit turn = right"
    ∷ codes "  when absent go, pace in { 3, 4 }, v = 5 do emit turn = left"
    ∷ codes "  when go, absent pace do nothing"
    ∷ codes "}"
    ∷ codes "machine second priority 255 {"
    ∷ codes "  input turn"
    ∷ codes "  output done"
    ∷ codes "  when turn do emit done = middle"
    ∷ codes "}"
    ∷ [])

-- the machines and the network that it gives
abbrev pub mix_machine_0 : Machine
mix_machine_0 = machine_of (record {
  name = codes "first";
  priority = 7;
  inputs = 0 ∷ 1 ∷ [];
  outputs = 2 ∷ [];
  states = state_of (codes "s") 0 1 ∷ state_of (codes "v") 1 1 ∷ [];
  vars = 2 ∷ 8 ∷ 3 ∷ 7 ∷ [];
  results = 2 ∷ 4 ∷ 8 ∷ 4 ∷ [];
  rows =
      record {
        conds = has_codes 0 2 ∷ has_codes 2 5 ∷ has_codes 1 128 ∷ [];
        acts = gives 1 2 ∷ gives 2 1 ∷ gives 3 3 ∷ [];
        actions = refl;
      }
      ∷ record {
        conds = has_codes 0 1 ∷ has_codes 1 6 ∷ has_codes 3 4 ∷ [];
        acts = gives 3 1 ∷ [];
        actions = refl;
      }
      ∷ record { conds = has_codes 0 2 ∷ has_codes 1 1 ∷ []; acts = []; actions = refl } ∷ [];
}) refl

abbrev pub mix_machine_1 : Machine
mix_machine_1 = machine_of (record {
  name = codes "second";
  priority = 255;
  inputs = 2 ∷ [];
  outputs = 3 ∷ [];
  states = [];
  vars = 4 ∷ [];
  results = 2 ∷ 4 ∷ [];
  rows = record { conds = has_codes 0 14 ∷ []; acts = gives 1 2 ∷ []; actions = refl } ∷ [];
}) refl

abbrev pub mix_network : Network
mix_network = network_of (record {
  name = codes "mix";
  domains =
      Names (codes "left" ∷ codes "middle" ∷ codes "right" ∷ [])
      ∷ Range (record { first = 3; last = 9; ordered = lit≤ tt; few = lit≤ tt }) ∷ [];
  events =
      pure_event (codes "go") Env false (0 ∷ [])
      ∷ valued_event (codes "pace") 1 Env false (0 ∷ [])
      ∷ valued_event (codes "turn") 0 (Sender 0) false (1 ∷ [])
      ∷ valued_event (codes "done") 0 (Sender 1) true [] ∷ [];
  machines = mix_machine_0 ∷ mix_machine_1 ∷ [];
}) refl
