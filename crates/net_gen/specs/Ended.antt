-- That runs of the network of a seed come to an end.
use Rattle.std.specs.Prelude.{ℕ, ◌+◌, ◌-◌, ◌%◌, ◌≤◌, ◌==◌, List, length, slice_index, if◌then◌else◌}
use Rattle.polis_base.specs.declared.limits.TheConstants.{ENTRIES_MAX}
use Rattle.transition_table.specs.Transitions.{AreDeterministic}
use Rattle.transition_table.specs.declared.network.Network.{Network}
use Rattle.journals.specs.declared.entry.Entry.{Entry}
use Rattle.journals.specs.Legality.{Complete, Legal}
use Rattle.journals.specs.Schedules.{IsSchedule}
use Rattle.net_rules.specs.Networks.{IsNetworkOf}
use Rattle.net_gen.specs.Dwindling.{Dwindles}
use Rattle.net_gen.specs.Items.{trace_items}
use Rattle.net_gen.specs.Networks.{network}

-- a tick may lead to a value and all lower ones, a value to those below it, an output to none
abbrev pub demo_load : ℕ → ℕ → ℕ
demo_load e code = if e % 3 == 0 then 8 else if e % 3 == 1 then code - 1 else 0

-- what a tick that is present and a value that is present may lead to
abbrev pub demo_held : ℕ → List ℕ → ℕ
demo_held m codes = (if slice_index codes 0 == 0 then 0 else 8) + (slice_index codes 1 - 1)

-- each machine of each seed has at most one outcome on each snapshot
abbrev pub SeedsAreDeterministic : Type 0
SeedsAreDeterministic =
    (seed : ℕ) (net : Network) → IsNetworkOf (network seed) net → AreDeterministic net

-- in the network of each seed each delivery leads to less than itself
abbrev pub SeedsDwindle : Type 0
SeedsDwindle =
    (seed : ℕ) (net : Network) → IsNetworkOf (network seed) net → Dwindles net demo_load demo_held

-- so a legal journal on the trace of the seed has 36,000 entries at most
abbrev pub SeedsEnd : Type 0
SeedsEnd =
    (seed : ℕ) (net : Network) (journal : List Entry)
    → IsNetworkOf (network seed) net
    → Legal net (trace_items seed) journal
    → length journal ≤ 36000

-- and the scheduler's journal of 60,000 entries or fewer is complete
abbrev pub SeedsComplete : Type 0
SeedsComplete =
    (seed : ℕ) (net : Network) (journal : List Entry)
    → IsNetworkOf (network seed) net
    → IsSchedule net (trace_items seed) ENTRIES_MAX journal
    → Complete net (trace_items seed) journal
