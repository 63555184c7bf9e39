-- Deliveries under way.
use Rattle.std.specs.Prelude.{ℕ, Bool, ◌&&◌, nat_le, List, [], Option, Some, None}
use Rattle.std.specs.List.{list_all}
use Rattle.transition_table.specs.declared.network.Network.{Network}
use Rattle.journals.specs.declared.entry.Owed.{Owed}
use Rattle.journals.specs.Laws.{may_arrive}
use Rattle.journals.specs.Logs.{max_stamp}
use Rattle.event_buffer.specs.declared.arrival.Arrival.{Arrival}

-- the delivery without the stamp of its firing
abbrev pub owed_of : Arrival → Owed
owed_of a = record { from = a.from; to = a.to; event = a.event; code = a.code }

-- the delivery with that stamp
abbrev pub arrival_of : ℕ → Owed → Arrival
arrival_of stamp d =
    record { from = d.from; to = d.to; event = d.event; code = d.code; stamp = stamp }

-- it may arrive in the network, and its stamp isn't above the greatest
abbrev pub is_arrival : Network → Arrival → Bool
is_arrival net a = may_arrive net (owed_of a) && nat_le a.stamp max_stamp

abbrev pub are_arrivals : Network → List Arrival → Bool
are_arrivals net arrivals = list_all (is_arrival net) arrivals

-- a firing's machine and stamp, and its deliveries that are left
pub record OutgoingState : Type 0 where
  pub machine : ℕ
  pub stamp : ℕ
  pub arrivals : List Arrival

-- the deliveries that are left, if there are any
abbrev pub arrivals_in : Option OutgoingState → List Arrival
arrivals_in None = []
arrivals_in (Some out) = out.arrivals
