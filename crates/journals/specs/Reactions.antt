-- Which reaction may follow, and the reaction that the rows give.
use Rattle.std.specs.Prelude.{◌≡◌, ℕ, false, [], List, option_map, unwrap_or, slice_get, IsTrue, ⊤}
use Rattle.transition_table.specs.Computed.{outcome_by}
use Rattle.transition_table.specs.Transitions.{OfMachine, Transition}
use Rattle.transition_table.specs.declared.machine.Machine.{Machine}
use Rattle.transition_table.specs.declared.network.Network.{Network}
use Rattle.transition_table.specs.declared.snapshot.Snapshot.{Snapshot}
use Rattle.transition_table.specs.declared.snapshot.Outcome.{Outcome}
use Rattle.journals.specs.declared.entry.Entry.{Entry}
use Rattle.journals.specs.declared.entry.Entry.TheVariants.{Dep, Rea}
use Rattle.journals.specs.Journals.{is_woken, snap}

-- After these entries m may react so: it is woken, s is its snapshot at this moment, and o is what
-- its transition makes of s.
abbrev pub MayReact : Network → List Entry → ℕ → Snapshot → Outcome → Type 0
MayReact net journal m s o =
    IsTrue (is_woken journal m)
    × (s ≡ snap net journal m)
    × OfMachine net m (λ machine. Transition machine s o)

-- the entry may follow if it is a reaction; nothing is said of a delivery
abbrev pub MayReactIfReaction : Network → List Entry → Entry → Type 0
MayReactIfReaction net journal (Dep s m event code) = ⊤
MayReactIfReaction net journal (Rea m s o) = MayReact net journal m s o

-- the result of the first row that is enabled, or the blank outcome
abbrev pub outcome_on : Machine → Snapshot → Outcome
outcome_on machine s = outcome_by machine machine.rows s.codes

-- the outcome of the machine of this number, and an empty one where there is no such machine
abbrev pub outcome_in : Network → ℕ → Snapshot → Outcome
outcome_in net m s =
    unwrap_or (option_map (λ machine. outcome_on machine s) (slice_get net.machines m))
    (record { fires = false; next = []; outs = [] })

-- the reaction of m after these entries
abbrev pub reaction : Network → ℕ → List Entry → Entry
reaction net m entries = Rea m (snap net entries m) (outcome_in net m (snap net entries m))
