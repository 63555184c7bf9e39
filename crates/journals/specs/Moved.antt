-- One entry more, at the machine that it belongs to.
use Rattle.std.specs.Prelude.{ℕ, ◌-◌, Bool, true, false, cond, ◌==◌, nat_lt, List, map, length, slice_get, slice_index, option_map, unwrap_or, ⊤}
use Rattle.polis_base.specs.Lists.{upto}
use Rattle.transition_table.specs.Transitions.{HasWidths}
use Rattle.transition_table.specs.declared.machine.Machine.{Machine}
use Rattle.transition_table.specs.declared.network.Network.{Network}
use Rattle.transition_table.specs.declared.snapshot.Snapshot.{Snapshot}
use Rattle.journals.specs.declared.entry.Entry.{Entry}
use Rattle.journals.specs.declared.entry.Entry.TheVariants.{Dep, Rea}
use Rattle.journals.specs.Journals.{snap, value_set}

-- the machine that receives or reacts
abbrev pub machine_of : Entry → ℕ
machine_of (Dep from to event code) = to
machine_of (Rea m s o) = m

abbrev pub is_dep : Entry → Bool
is_dep (Dep from to event code) = true
is_dep (Rea m s o) = false

-- the entry's outcome, if it has one, has the machine's widths
abbrev pub SuitsMachine : Machine → Entry → Type 0
SuitsMachine machine (Dep from to event code) = ⊤
SuitsMachine machine (Rea m s o) = HasWidths machine o

-- What becomes of the code of the machine's k-th variable: a delivery overwrites the place of its
-- event, and a firing clears
-- each place and gives each state variable that it sets its value.
abbrev pub code_after : Machine → Entry → ℕ → ℕ → ℕ
code_after machine (Dep from to event code) k before =
    unwrap_or
    (option_map (λ input. cond (event == input) code before) (slice_get machine.inputs k)) before
code_after machine (Rea m s o) k before =
    cond o.fires
    (cond (nat_lt k (length machine.inputs)) 0
    (unwrap_or (value_set (slice_index o.next (k - length machine.inputs))) before)) before

abbrev pub codes_after : Machine → Entry → List ℕ → List ℕ
codes_after machine entry codes =
    map (λ k. code_after machine entry k (slice_index codes k)) (upto (length codes))

-- the snapshot of each machine of the network after these entries
abbrev pub moments_of : Network → List Entry → List Snapshot
moments_of net journal = map (snap net journal) (upto (length net.machines))
