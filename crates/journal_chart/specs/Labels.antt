-- What a chart draws of an entry: an arrow from its sender to its receiver, or the label of a
-- reaction.
use Rattle.std.specs.Prelude.{ℕ, ◌+◌, ◌-◌, ◌/◌, Bool, cond, nat_le, nat_lt, List, [], ◌∷◌, ◌++◌, flat_map, length, replicate, slice_get, option_map, unwrap_or, codes}
use Rattle.transition_table.specs.declared.decl.Party.{Party}
use Rattle.transition_table.specs.declared.decl.Party.TheVariants.{Machine as Sender}
use Rattle.transition_table.specs.declared.machine.Machine.{Machine}
use Rattle.transition_table.specs.declared.network.Network.{Network}
use Rattle.transition_table.specs.declared.snapshot.Outcome.{Outcome}
use Rattle.transition_table.specs.declared.snapshot.Snapshot.{Snapshot}
use Rattle.journals.specs.declared.entry.Entry.{Entry}
use Rattle.journals.specs.declared.entry.Entry.TheVariants.{Dep, Rea}
use Rattle.journal_text.specs.Texts.{event_item, set_items, space}
use Rattle.table_use.specs.Use.{is_jammed}
use Rattle.journal_chart.specs.Pictures.{axis, cells, centred, laid}
use Rattle.journal_chart.specs.Columns.{column_of, party_names, width_of}

-- the texts, with one more text between each two
abbrev pub joined : List ℕ → List (List ℕ) → List ℕ
joined between [] = []
joined between (text ∷ texts) = text ++ flat_map (λ next. between ++ next) texts

-- what stands over the middle of an arrow
abbrev pub spaced_out : List ℕ → List ℕ
spaced_out item = space ++ item ++ space

-- `-` at each place between the axes a and b, of which b is the right one
abbrev pub lined : ℕ → ℕ → List ℕ → List ℕ
lined a b picture = laid picture (a + 1) (replicate (b - (a + 1)) 45)

-- an arrow from the axis a to the axis b on its right
abbrev pub to_right : ℕ → ℕ → List ℕ → List ℕ → List ℕ
to_right a b item picture =
    centred (laid (lined a b picture) (b - 1) (codes ">")) ((a + b) / 2) (spaced_out item)

-- an arrow from the axis a to the axis b on its left
abbrev pub to_left : ℕ → ℕ → List ℕ → List ℕ → List ℕ
to_left a b item picture =
    centred (laid (lined b a picture) (b + 1) (codes "<")) ((a + b) / 2 + 1) (spaced_out item)

-- what a machine delivers to itself, on its axis a
abbrev pub to_itself : ℕ → List ℕ → List ℕ → List ℕ
to_itself a item picture = centred picture a (codes "(" ++ item ++ codes ")")

-- a delivery from the axis a to the axis b, which are one where a machine delivers to itself
abbrev pub arrow : ℕ → ℕ → List ℕ → List ℕ → List ℕ
arrow a b item picture =
    cond (nat_lt a b) (to_right a b item picture)
    (cond (nat_lt b a) (to_left a b item picture) (to_itself a item picture))

-- `[S=V S=V]`, each state variable that a firing sets
abbrev pub settings : Network → Machine → Outcome → List ℕ
settings net machine o =
    codes "[" ++ joined space (set_items net machine.states o.next) ++ codes "]"

-- the column has room for what a firing sets
abbrev pub has_room : Network → ℕ → Machine → Outcome → Bool
has_room net width machine o = nat_le (length (settings net machine o)) width

-- what stands on a machine's axis where it reacts
abbrev pub label : Network → ℕ → Machine → Snapshot → Outcome → List ℕ
label net width machine s o =
    cond o.fires
    (cond (has_room net width machine o) (settings net machine o) (codes "[..]"))
    (cond (is_jammed machine s.codes) (codes "jammed") (codes "idle"))

-- the same by the machine's number
abbrev pub reaction_label : Network → ℕ → ℕ → Snapshot → Outcome → List ℕ
reaction_label net width m s o =
    unwrap_or (option_map (λ machine. label net width machine s o) (slice_get net.machines m)) []

-- the axes of all columns
abbrev pub axes : Network → List Entry → List ℕ
axes net entries =
    cells (width_of net entries) (replicate (length (party_names net entries)) (codes "|"))

-- where the axis of a party stands
abbrev pub axis_of : Network → List Entry → Party → ℕ
axis_of net entries party = axis (width_of net entries) (column_of entries party)

-- the picture of an entry, among those that are shown
abbrev pub picture : Network → List Entry → Entry → List ℕ
picture net entries (Dep from to event code) =
    arrow (axis_of net entries from) (axis_of net entries (Sender to))
    (event_item net (event, code)) (axes net entries)
picture net entries (Rea m s o) =
    centred (axes net entries) (axis_of net entries (Sender m))
    (reaction_label net (width_of net entries) m s o)
