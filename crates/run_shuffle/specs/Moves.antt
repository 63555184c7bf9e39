-- The moves of the environment and of the network after a journal.
use Rattle.std.specs.Prelude.{ℕ, List, ◌++◌, map, filter, filter_map, flat_map, length, Option, option_map}
use Rattle.std.specs.List.{Contains}
use Rattle.polis_base.specs.Lists.{upto}
use Rattle.transition_table.specs.declared.decl.Party.{Party}
use Rattle.transition_table.specs.declared.decl.Party.TheVariants.{Env, Machine as Sender}
use Rattle.transition_table.specs.declared.network.Network.{Network}
use Rattle.journals.specs.declared.entry.Entry.{Entry}
use Rattle.journals.specs.declared.entry.Pick.{Pick}
use Rattle.journals.specs.declared.entry.Pick.TheVariants.{Deliver, React}
use Rattle.journals.specs.declared.entry.TraceItem.{TraceItem}
use Rattle.journals.specs.Journals.{is_woken, next_of}
use Rattle.journals.specs.Schedules.{IsPicked}

-- the numbers of the network's machines
abbrev pub machines_of : Network → List ℕ
machines_of net = upto (length net.machines)

-- the delivery from s to m that may come next, if there is one
abbrev pub next_delivery : Network → List TraceItem → List Entry → Party → ℕ → Option Pick
next_delivery net trace journal s m =
    option_map (λ (p : ℕ × ℕ). Deliver s m p.0 p.1) (next_of net trace journal s m)

-- those from s, by receiver
abbrev pub next_deliveries : Network → List TraceItem → List Entry → Party → List Pick
next_deliveries net trace journal s = filter_map (next_delivery net trace journal s) (machines_of net)

-- what the environment may do next, by receiver
abbrev pub env_moves : Network → List TraceItem → List Entry → List Pick
env_moves net trace journal = next_deliveries net trace journal Env

-- the reactions of the woken machines
abbrev pub reactions : Network → List Entry → List Pick
reactions net journal = map React (filter (is_woken journal) (machines_of net))

-- the deliveries of machines that may come next, by sender and then by receiver
abbrev pub next_sends : Network → List TraceItem → List Entry → List Pick
next_sends net trace journal =
    flat_map (λ s. next_deliveries net trace journal (Sender s)) (machines_of net)

-- what the network may do next: deliveries, and then reactions
abbrev pub network_moves : Network → List TraceItem → List Entry → List Pick
network_moves net trace journal = next_sends net trace journal ++ reactions net journal

-- what may be done next
abbrev pub all_moves : Network → List TraceItem → List Entry → List Pick
all_moves net trace journal = env_moves net trace journal ++ network_moves net trace journal

-- the entry is that of one of these moves after the journal
abbrev pub IsOneOf : Network → List Entry → List Pick → Entry → Type 0
IsOneOf net journal moves entry =
    (move : Pick) × Contains moves move × IsPicked net journal move entry
