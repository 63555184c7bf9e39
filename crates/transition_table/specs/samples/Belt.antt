-- A seat belt controller with a timer, which warns after five ticks and stops the warning after
-- ten. domain mode = { off, wait, alarm }; domain count = 0 .. 10 event key_on from env; event
-- key_off from env; event belt_on from env; event tick from env event start; event end5; event
-- end10; event alarm_on to env; event alarm_off to env machine belt priority 1 input key_on,
-- key_off, belt_on, end5, end10; output start, alarm_on, alarm_off; state s : mode = off when
-- key_on, absent key_off, s = off do s := wait, emit start when key_off, s = off do nothing when
-- key_off, s = wait do s := off when belt_on, s = wait do s := off when end5, absent key_off,
-- absent belt_on, s = wait do s := alarm, emit alarm_on when key_off, s = alarm do s := off, emit
-- alarm_off when belt_on, s = alarm do s := off, emit alarm_off when end10, s = alarm do s := off,
-- emit alarm_off machine timer priority 2 input start, tick; output end5, end10; state n : count =
-- 10 when start do n := 0 when tick, absent start, n = 0 do n := 1, and so on; from 4 to 5 it emits
-- end5, from 9 to 10 it emits end10 when tick, absent start, n = 10 do nothing
use Rattle.std.specs.Prelude.{true, false, [], ◌∷◌, codes, refl}
use Rattle.std.proofs.Common.{lit≤, lit<}
use Rattle.domains.specs.declared.domain.Domain.TheVariants.{Names, Range}
use Rattle.transition_table.specs.declared.decl.Party.TheVariants.{Env, Machine as Sender}
use Rattle.transition_table.specs.declared.machine.Machine.{Machine}
use Rattle.transition_table.specs.declared.network.Network.{Network}
use Rattle.transition_table.specs.samples.Parts.{has_codes, gives, state_of, pure_event, network_of, machine_of}

abbrev pub belt_machine : Machine
belt_machine = machine_of (record {
  name = codes "belt";
  priority = 1;
  inputs = 0 ∷ 1 ∷ 2 ∷ 5 ∷ 6 ∷ [];
  outputs = 4 ∷ 7 ∷ 8 ∷ [];
  states = state_of (codes "s") 0 0 ∷ [];
  vars = 2 ∷ 2 ∷ 2 ∷ 2 ∷ 2 ∷ 3 ∷ [];
  results = 2 ∷ 4 ∷ 2 ∷ 2 ∷ 2 ∷ [];
  rows =
      record {
        conds = has_codes 0 2 ∷ has_codes 1 1 ∷ has_codes 5 1 ∷ [];
        acts = gives 1 2 ∷ gives 2 1 ∷ [];
        actions = refl;
      }
      ∷ record { conds = has_codes 1 2 ∷ has_codes 5 1 ∷ []; acts = []; actions = refl }
      ∷ record { conds = has_codes 1 2 ∷ has_codes 5 2 ∷ []; acts = gives 1 1 ∷ []; actions = refl }
      ∷ record { conds = has_codes 2 2 ∷ has_codes 5 2 ∷ []; acts = gives 1 1 ∷ []; actions = refl }
      ∷ record {
        conds = has_codes 3 2 ∷ has_codes 1 1 ∷ has_codes 2 1 ∷ has_codes 5 2 ∷ [];
        acts = gives 1 3 ∷ gives 3 1 ∷ [];
        actions = refl;
      }
      ∷ record {
        conds = has_codes 1 2 ∷ has_codes 5 4 ∷ [];
        acts = gives 1 1 ∷ gives 4 1 ∷ [];
        actions = refl;
      }
      ∷ record {
        conds = has_codes 2 2 ∷ has_codes 5 4 ∷ [];
        acts = gives 1 1 ∷ gives 4 1 ∷ [];
        actions = refl;
      }
      ∷ record {
        conds = has_codes 4 2 ∷ has_codes 5 4 ∷ [];
        acts = gives 1 1 ∷ gives 4 1 ∷ [];
        actions = refl;
      } ∷ [];
}) refl

abbrev pub timer_machine : Machine
timer_machine = machine_of (record {
  name = codes "timer";
  priority = 2;
  inputs = 4 ∷ 3 ∷ [];
  outputs = 5 ∷ 6 ∷ [];
  states = state_of (codes "n") 1 10 ∷ [];
  vars = 2 ∷ 2 ∷ 11 ∷ [];
  results = 2 ∷ 12 ∷ 2 ∷ 2 ∷ [];
  rows =
      record { conds = has_codes 0 2 ∷ []; acts = gives 1 1 ∷ []; actions = refl }
      ∷ record {
        conds = has_codes 1 2 ∷ has_codes 0 1 ∷ has_codes 2 1 ∷ [];
        acts = gives 1 2 ∷ [];
        actions = refl;
      }
      ∷ record {
        conds = has_codes 1 2 ∷ has_codes 0 1 ∷ has_codes 2 2 ∷ [];
        acts = gives 1 3 ∷ [];
        actions = refl;
      }
      ∷ record {
        conds = has_codes 1 2 ∷ has_codes 0 1 ∷ has_codes 2 4 ∷ [];
        acts = gives 1 4 ∷ [];
        actions = refl;
      }
      ∷ record {
        conds = has_codes 1 2 ∷ has_codes 0 1 ∷ has_codes 2 8 ∷ [];
        acts = gives 1 5 ∷ [];
        actions = refl;
      }
      ∷ record {
        conds = has_codes 1 2 ∷ has_codes 0 1 ∷ has_codes 2 16 ∷ [];
        acts = gives 1 6 ∷ gives 2 1 ∷ [];
        actions = refl;
      }
      ∷ record {
        conds = has_codes 1 2 ∷ has_codes 0 1 ∷ has_codes 2 32 ∷ [];
        acts = gives 1 7 ∷ [];
        actions = refl;
      }
      ∷ record {
        conds = has_codes 1 2 ∷ has_codes 0 1 ∷ has_codes 2 64 ∷ [];
        acts = gives 1 8 ∷ [];
        actions = refl;
      }
      ∷ record {
        conds = has_codes 1 2 ∷ has_codes 0 1 ∷ has_codes 2 128 ∷ [];
        acts = gives 1 9 ∷ [];
        actions = refl;
      }
      ∷ record {
        conds = has_codes 1 2 ∷ has_codes 0 1 ∷ has_codes 2 256 ∷ [];
        acts = gives 1 10 ∷ [];
        actions = refl;
      }
      ∷ record {
        conds = has_codes 1 2 ∷ has_codes 0 1 ∷ has_codes 2 512 ∷ [];
        acts = gives 1 11 ∷ gives 3 1 ∷ [];
        actions = refl;
      }
      ∷ record {
        conds = has_codes 1 2 ∷ has_codes 0 1 ∷ has_codes 2 1024 ∷ [];
        acts = [];
        actions = refl;
      } ∷ [];
}) refl

abbrev pub belt : Network
belt = network_of (record {
  name = codes "belt";
  domains = Names (codes "off" ∷ codes "wait" ∷ codes "alarm" ∷ [])
      ∷ Range (record { first = 0; last = 10; ordered = lit≤ tt; few = lit< tt }) ∷ [];
  events =
      pure_event (codes "key_on") Env false (0 ∷ [])
      ∷ pure_event (codes "key_off") Env false (0 ∷ [])
      ∷ pure_event (codes "belt_on") Env false (0 ∷ [])
      ∷ pure_event (codes "tick") Env false (1 ∷ [])
      ∷ pure_event (codes "start") (Sender 0) false (1 ∷ [])
      ∷ pure_event (codes "end5") (Sender 1) false (0 ∷ [])
      ∷ pure_event (codes "end10") (Sender 1) false (0 ∷ [])
      ∷ pure_event (codes "alarm_on") (Sender 0) true []
      ∷ pure_event (codes "alarm_off") (Sender 0) true [] ∷ [];
  machines = belt_machine ∷ timer_machine ∷ [];
}) refl
