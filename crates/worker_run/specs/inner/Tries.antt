-- What came of a try.
use Rattle.std.specs.Prelude.{◌≡◌, ℕ, List, [], map, ⊤}
use Rattle.transition_table.specs.declared.network.Network.{Network}
use Rattle.journals.specs.declared.entry.Entry.TheVariants.{Rea}
use Rattle.journals.specs.declared.entry.Owed.{Owed}
use Rattle.journals.specs.Reactions.{outcome_in}
use Rattle.journals.specs.Schedules.{firing_deliveries}
use Rattle.event_buffer.specs.declared.arrival.Arrival.{Arrival}
use Rattle.event_buffer.specs.Arrivals.{arrival_of}
use Rattle.event_buffer.specs.Reacting.{FrozenState}
use Rattle.worker_run.specs.declared.locked.Tried.{Tried}
use Rattle.worker_run.specs.declared.locked.Tried.TheVariants.{Idle, Frozen, Failed}
use Rattle.worker_run.specs.declared.locked.Settled.{Settled}
use Rattle.worker_run.specs.declared.locked.Settled.TheVariants.{Elsewhere, Silent, Sending}
use Rattle.worker_run.specs.declared.locked.Landed.{Landed}
use Rattle.worker_run.specs.declared.locked.Landed.TheVariants.{Yes, Elsewhere as NotHere, Failed as NotLanded}

-- a reaction that was frozen is of the network
abbrev pub IsTried : Network → Tried → Type 0
IsTried net Idle = ⊤
IsTried net (Frozen f) = f.net ≡ net
IsTried net (Failed e) = ⊤

-- how many entries it appended
abbrev pub frozen_count : Tried → ℕ
frozen_count Idle = 0
frozen_count (Frozen f) = 1
frozen_count (Failed e) = 0

-- the deliveries that came into hand
abbrev pub given_by : Settled → List Arrival
given_by Elsewhere = []
given_by Silent = []
given_by (Sending out) = out.arrivals

-- how many entries it appended
abbrev pub landed_count : Landed → ℕ
landed_count Yes = 1
landed_count NotHere = 0
landed_count (NotLanded e) = 0

-- what the reaction gives by the outcome of its machine's transition
abbrev pub frozen_deliveries : FrozenState → List Owed
frozen_deliveries f =
    firing_deliveries f.net (Rea f.machine f.snapshot (outcome_in f.net f.machine f.snapshot))

-- the same with the reaction's stamp
abbrev pub arrivals_of : FrozenState → List Arrival
arrivals_of f = map (arrival_of f.stamp) (frozen_deliveries f)

-- where the reaction was settled, all that it gives came into hand
abbrev pub Hands : FrozenState → Settled → Type 0
Hands f Elsewhere = ⊤
Hands f Silent = arrivals_of f ≡ []
Hands f (Sending out) = out.arrivals ≡ arrivals_of f
