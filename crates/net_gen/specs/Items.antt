-- The trace of a seed.
use Rattle.std.specs.Prelude.{◌≡◌, ℕ, ◌+◌, ◌*◌, ◌%◌, ◌==◌, List, [], ◌∷◌, flat_map, Ok, if◌then◌else◌}
use Rattle.polis_base.specs.Lists.{upto}
use Rattle.transition_table.specs.declared.network.Network.{Network}
use Rattle.journals.specs.declared.entry.TraceItem.{TraceItem}
use Rattle.journals.specs.declared.entry.TraceItem.TheVariants.{Event, Settle}
use Rattle.journals.specs.Journals.{IsTrace}
use Rattle.net_rules.specs.Networks.{IsNetworkOf}
use Rattle.trace_text.specs.Traces.{trace_of}
use Rattle.polis_base.specs.Draws.{after, draw}
use Rattle.net_gen.specs.Dwindling.{arrivals}
use Rattle.net_gen.specs.Networks.{count, network}
use Rattle.net_gen.specs.Traces.{trace_text}

-- the tick of machine i, a pure event, which is the first of the machine's three
abbrev pub tick_item : ℕ → TraceItem
tick_item i = Event (3 * i) 1

-- after every tenth tick
abbrev pub settle_items : ℕ → List TraceItem
settle_items k = if (k + 1) % 10 == 0 then Settle ∷ [] else []

-- 2,000 ticks of n machines, drawn from x
abbrev pub items_at : ℕ → ℕ → ℕ → List TraceItem
items_at n x k = tick_item (draw (after x k) n) ∷ settle_items k

unfoldable pub tick_items : ℕ → ℕ → List TraceItem
tick_items n x = flat_map (items_at n x) (upto 2000)

-- the trace of the seed
unfoldable pub trace_items : ℕ → List TraceItem
trace_items seed = tick_items (count seed) (after seed (1 + 25 * count seed))

-- the trace text is a text of this trace
abbrev pub TextsHaveTrace : Type 0
TextsHaveTrace =
    (seed : ℕ) (net : Network) → IsNetworkOf (network seed) net
    → trace_of net (trace_text seed) ≡ Ok (trace_items seed)

-- it is a trace of the network
abbrev pub ItemsAreTrace : Type 0
ItemsAreTrace =
    (seed : ℕ) (net : Network) → IsNetworkOf (network seed) net → IsTrace net (trace_items seed)

-- and each tick is delivered once
abbrev pub TicksArriveOnce : Type 0
TicksArriveOnce =
    (seed : ℕ) (net : Network) → IsNetworkOf (network seed) net
    → arrivals net (trace_items seed) ≡ 2000
