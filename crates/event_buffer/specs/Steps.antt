-- The calls of a cell are the core's steps on its machine's log.
use Rattle.std.specs.Prelude.{◌≡◌, ℕ, ◌<◌, max, List, [], ◌∷◌, map, set, Some, None}
use Rattle.transition_table.specs.declared.network.Network.{Network}
use Rattle.journals.specs.declared.entry.Owed.{Owed}
use Rattle.journals.specs.declared.stamped.CoreStep.TheVariants.{React, Land, Free, Feed}
use Rattle.journals.specs.declared.stamped.Stamped.{Stamped}
use Rattle.journals.specs.Logs.{clock, max_stamp}
use Rattle.journals.specs.Schedules.{firing_deliveries}
use Rattle.worker_core.specs.Cores.{CoreState, log_of, hand_of, hand_after, reacting, taken_up, take_step}
use Rattle.event_buffer.specs.declared.arrival.Arrival.{Arrival}
use Rattle.event_buffer.specs.declared.look.Look.TheVariants.{Ready}
use Rattle.event_buffer.specs.Arrivals.{arrival_of, owed_of}
use Rattle.event_buffer.specs.Cells.{CellState, look, freezing, taking}

-- the cell has its machine's log in this state of the core
abbrev pub HasLog : CoreState → CellState → Type 0
HasLog state c = log_of state c.machine ≡ c.log

-- A freezing is React. The core's machine has in hand at once what the cell hands on when it is
-- settled.
abbrev pub FreezingIsReact : Type 0
FreezingIsReact =
    (state : CoreState) (c : CellState)
    → HasLog state c
    → hand_of state c.machine ≡ None
    → look c ≡ Ready
    → clock c.log < max_stamp
    → take_step c.net state (React c.machine)
    ≡ Some (record state {
      logs = set state.logs c.machine (freezing c).log;
      hands = set state.hands c.machine (hand_after c.net (reacting c.net c.machine c.log));
    })

-- these arrivals of a reaction are what it brings into hand
abbrev pub GivenIsInHand : Type 0
GivenIsInHand =
    (net : Network) (x : Stamped) (arrivals : List Arrival)
    → arrivals ≡ map (arrival_of x.stamp) (firing_deliveries net x.entry)
    → hand_after net x ≡ taken_up x.stamp (map owed_of arrivals)

-- a landing of the first delivery in the hand of s is Land
abbrev pub LandingIsLand : Type 0
LandingIsLand =
    (net : Network) (state : CoreState) (c : CellState) (s : ℕ) (a : Arrival) (rest : List Owed)
    → HasLog state c
    → a.to ≡ c.machine
    → hand_of state s ≡ Some (record { stamp = a.stamp; deliveries = owed_of a ∷ rest })
    → max (clock c.log) a.stamp < max_stamp
    → take_step net state (Land s)
    ≡ Some (record state {
      logs = set state.logs c.machine (taking c a).log;
      hands = set state.hands s (Some (record { stamp = a.stamp; deliveries = rest }));
    })

-- the end of a firing, of which nothing is left in hand, is Free
abbrev pub FreeingIsFree : Type 0
FreeingIsFree =
    (net : Network) (state : CoreState) (c : CellState) (stamp : ℕ)
    → hand_of state c.machine ≡ Some (record { stamp = stamp; deliveries = [] })
    → take_step net state (Free c.machine)
    ≡ Some (record state { hands = set state.hands c.machine None })

-- a landing of the environment's next delivery is Feed
abbrev pub FeedingIsFeed : Type 0
FeedingIsFeed =
    (net : Network) (state : CoreState) (c : CellState) (d : Owed) (rest : List Owed)
    → HasLog state c
    → d.to ≡ c.machine
    → state.rest ≡ d ∷ rest
    → max (clock c.log) 0 < max_stamp
    → take_step net state Feed
    ≡ Some (record state {
      logs = set state.logs c.machine (taking c (arrival_of 0 d)).log;
      rest = rest;
    })
