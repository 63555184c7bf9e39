-- What a chart notes behind an entry's picture.
use Rattle.std.specs.Prelude.{ℕ, cond, ◌==◌, List, [], ◌∷◌, ◌++◌, filter_map, length, take, slice_get, Option, option_map, unwrap_or, codes, decimal}
use Rattle.std.specs.Bool.{then_some}
use Rattle.std.specs.List.{enumerate_from}
use Rattle.polis_base.specs.Lists.{last_of, places_where}
use Rattle.transition_table.specs.NetworkNames.{event_name}
use Rattle.transition_table.specs.declared.machine.Machine.{Machine}
use Rattle.transition_table.specs.declared.network.Network.{Network}
use Rattle.transition_table.specs.declared.snapshot.Outcome.{Outcome}
use Rattle.transition_table.specs.declared.snapshot.Snapshot.{Snapshot}
use Rattle.journals.specs.declared.entry.Entry.{Entry}
use Rattle.journals.specs.declared.entry.Entry.TheVariants.{Dep, Rea}
use Rattle.journals.specs.Outputs.{overwrites}
use Rattle.journal_text.specs.Texts.{event_items, set_items, spaced}
use Rattle.event_accounts.specs.Accounts.{is_delivery_of}
use Rattle.table_use.specs.Use.{is_unused}
use Rattle.journal_chart.specs.Labels.{has_room, joined}

-- the place of the last delivery of e to m
abbrev pub last_delivery : List Entry → ℕ → ℕ → ℕ
last_delivery journal m e = last_of 0 (places_where (is_delivery_of m e) journal)

-- `lost Q`, of an entry that comes after these: what it overwrites is the last delivery of its
-- event to its machine
abbrev pub loss_notes : Network → List Entry → Entry → List (List ℕ)
loss_notes net before (Dep from to event code) =
    cond (overwrites net before (Dep from to event code))
    ((codes "lost " ++ decimal (last_delivery before to event)) ∷ []) []
loss_notes net before (Rea m s o) = []

-- `sets N`, where the column has no room for what a firing sets
abbrev pub set_notes : Network → ℕ → Machine → Outcome → List (List ℕ)
set_notes net width machine o =
    cond (has_room net width machine o) []
    ((codes "sets " ++ spaced (set_items net machine.states o.next)) ∷ [])

-- `emits O`, where a firing emits something
abbrev pub emission_notes : Network → Machine → Outcome → List (List ℕ)
emission_notes net machine o =
    cond (length (event_items net machine.outputs o.outs) == 0) []
    ((codes "emits " ++ spaced (event_items net machine.outputs o.outs)) ∷ [])

-- `unused E`, where the input at place i, which has the event e, is unused
abbrev pub unused_note : Network → Machine → List ℕ → ℕ × ℕ → Option (List ℕ)
unused_note net machine s (i, e) =
    then_some (is_unused machine i s) (codes "unused " ++ event_name net e)

-- for each input that is unused
abbrev pub unused_notes : Network → Machine → List ℕ → List (List ℕ)
unused_notes net machine s =
    filter_map (unused_note net machine s) (enumerate_from 0 machine.inputs)

-- `sees I`, the inputs that are present
abbrev pub sight_note : Network → Machine → List ℕ → List ℕ
sight_note net machine s =
    codes "sees " ++ spaced (event_items net machine.inputs (take (length machine.inputs) s))

-- the notes of a machine's reaction
abbrev pub reaction_notes : Network → ℕ → Machine → Snapshot → Outcome → List (List ℕ)
reaction_notes net width machine s o =
    cond o.fires
    (set_notes net width machine o ++ emission_notes net machine o
    ++ unused_notes net machine s.codes)
    (sight_note net machine s.codes ∷ [])

-- the notes of an entry that comes after these
abbrev pub notes : Network → ℕ → List Entry → Entry → List (List ℕ)
notes net width before (Dep from to event code) = loss_notes net before (Dep from to event code)
notes net width before (Rea m s o) =
    unwrap_or
    (option_map (λ machine. reaction_notes net width machine s o) (slice_get net.machines m)) []

-- two spaces and the notes, where there are some
abbrev pub notes_text : List (List ℕ) → List ℕ
notes_text [] = []
notes_text (note ∷ notes) = codes "  " ++ joined (codes ", ") (note ∷ notes)
