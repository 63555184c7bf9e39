-- The environment's deliveries that are left.
use Rattle.std.specs.Prelude.{ℕ, ◌+◌, ◌<◌, List, [], ◌++◌, flat_map, drop, length, slice_get, Option, Some, None, ⊤}
use Rattle.transition_table.specs.declared.network.Network.{Network}
use Rattle.journals.specs.declared.entry.Owed.{Owed}
use Rattle.journals.specs.declared.entry.TraceItem.{TraceItem}
use Rattle.journals.specs.Schedules.{item_deliveries}

-- a network, a trace of it, and the environment's deliveries that are left
pub record FeedState : Type 0 where
  pub net : Network
  pub trace : List TraceItem
  pub left : List Owed

-- the deliveries of these items, by item and then by receiver
abbrev pub all_deliveries : Network → List TraceItem → List Owed
all_deliveries net items = flat_map (item_deliveries net) items

abbrev pub deliveries_at : Network → Option TraceItem → List Owed
deliveries_at net None = []
deliveries_at net (Some item) = item_deliveries net item

-- those of the item at this place but for the first ones, and those of the items after it
abbrev pub left_at : Network → List TraceItem → ℕ → ℕ → List Owed
left_at net trace item receiver =
    drop receiver (deliveries_at net (slice_get trace item))
    ++ all_deliveries net (drop (item + 1) trace)

-- the item has a delivery of this number, or there is no item
abbrev pub IsNext : Network → ℕ → Option TraceItem → Type 0
IsNext net receiver None = ⊤
IsNext net receiver (Some item) = receiver < length (item_deliveries net item)
