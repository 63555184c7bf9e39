-- The texts that are written: journals in both versions, and outputs.
use Rattle.std.specs.Prelude.{◌≡◌, IsTrue, nat_le, ◌&&◌, ℕ, zero, suc, ◌-◌, Bool, cond, List, ◌∷◌, ◌++◌, map, flat_map, length, take, drop, slice_get, option_map, unwrap_or, codes, decimal, []}
use Rattle.std.specs.List.{list_all, zip}
use Rattle.std.specs.Option.{option_map_or}
use Rattle.polis_base.specs.Lines.{line}
use Rattle.domains.specs.Domains.{word_of}
use Rattle.transition_table.specs.NetworkNames.{machine_name}
use Rattle.transition_table.specs.declared.decl.Party.{Party}
use Rattle.transition_table.specs.declared.decl.Party.TheVariants.{Env, Machine as Sender}
use Rattle.transition_table.specs.declared.decl.StateDecl.{StateDecl}
use Rattle.transition_table.specs.declared.machine.Machine.{Machine}
use Rattle.transition_table.specs.declared.network.Network.{Network}
use Rattle.transition_table.specs.declared.snapshot.Snapshot.{Snapshot}
use Rattle.transition_table.specs.declared.snapshot.Outcome.{Outcome}
use Rattle.journals.specs.declared.entry.Entry.{Entry}
use Rattle.journals.specs.declared.entry.Entry.TheVariants.{Dep, Rea}
use Rattle.journals.specs.Journals.{emitted}
use Rattle.journals.specs.Logs.{max_stamp}
use Rattle.journals.specs.Outputs.{outputs}

-- between two items
abbrev pub space : List ℕ
space = codes " "

-- the items with one space between each two, and `-` where there is none
abbrev pub spaced : List (List ℕ) → List ℕ
spaced [] = codes "-"
spaced (item ∷ items) = item ++ flat_map (λ next. space ++ next) items

-- `=V`, with the word of a value of the domain of this number
abbrev pub value_part : Network → ℕ → ℕ → List ℕ
value_part net d v =
    codes "=" ++ unwrap_or (option_map (λ domain. word_of domain v) (slice_get net.domains d)) []

-- `E`, or `E=V` where the event has a domain; the code of the value v is 1 + v
abbrev pub event_item : Network → ℕ × ℕ → List ℕ
event_item net (e, code) =
    unwrap_or (option_map (λ event. event.name
    ++ option_map_or (λ d. value_part net d (code - 1)) event.domain [])
    (slice_get net.events e)) []

-- of each event with a code above 0
abbrev pub event_items : Network → List ℕ → List ℕ → List (List ℕ)
event_items net events codes = map (event_item net) (emitted events codes)

-- `S=V`
abbrev pub state_item : Network → StateDecl → ℕ → List ℕ
state_item net variable v = variable.name ++ value_part net variable.domain v

-- each state variable with its value
abbrev pub state_items : Network → List StateDecl → List ℕ → List (List ℕ)
state_items net (variable ∷ variables) (v ∷ values) =
    state_item net variable v ∷ state_items net variables values
state_items net [] values = []
state_items net (variable ∷ variables) [] = []

-- each state variable that is set, with the value that it is set to
abbrev pub set_items : Network → List StateDecl → List ℕ → List (List ℕ)
set_items net (variable ∷ variables) (zero ∷ codes) = set_items net variables codes
set_items net (variable ∷ variables) (suc v ∷ codes) =
    state_item net variable v ∷ set_items net variables codes
set_items net [] codes = []
set_items net (variable ∷ variables) [] = []

abbrev pub party_name : Network → Party → List ℕ
party_name net Env = codes "env"
party_name net (Sender m) = machine_name net m

-- `I ; X`, what a reaction read: the present inputs, and the state
abbrev pub snapshot_text : Network → Machine → List ℕ → List ℕ
snapshot_text net machine snapshot =
    spaced (event_items net machine.inputs (take (length machine.inputs) snapshot))
    ++ codes " ; " ++ spaced
    (state_items net machine.states (drop (length machine.inputs) snapshot))

-- `N ; O`, what a firing gave: the state variables that it set, and the events that it emitted
abbrev pub result_text : Network → Machine → Outcome → List ℕ
result_text net machine o = spaced (set_items net machine.states o.next) ++ codes " ; "
    ++ spaced (event_items net machine.outputs o.outs)

-- `fire M : I ; X -> N ; O`, or `idle M : I ; X` where it doesn't fire
abbrev pub reaction_text : Network → Machine → Snapshot → Outcome → List ℕ
reaction_text net machine s o =
    cond o.fires
    (codes "fire " ++ machine.name ++ codes " : " ++ snapshot_text net machine s.codes
    ++ codes " -> " ++ result_text net machine o)
    (codes "idle " ++ machine.name ++ codes " : " ++ snapshot_text net machine s.codes)

-- `dep S M E`, or `dep S M E=V`
abbrev pub delivery_text : Network → Party → ℕ → ℕ → ℕ → List ℕ
delivery_text net from to event code =
    codes "dep " ++ party_name net from ++ codes " " ++ machine_name net to ++ codes " "
    ++ event_item net (event, code)

abbrev pub entry_text : Network → Entry → List ℕ
entry_text net (Dep from to event code) = delivery_text net from to event code
entry_text net (Rea m s o) =
    unwrap_or (option_map (λ machine. reaction_text net machine s o) (slice_get net.machines m)) []

-- the line of an entry
abbrev pub entry_line : Network → Entry → List ℕ
entry_line net entry = line (entry_text net entry)

-- `complete` or `limit`
abbrev pub ending : Bool → List ℕ
ending complete = cond complete (codes "complete") (codes "limit")

-- the number of entries, and `complete` or `limit`
abbrev pub count_text : List Entry → Bool → List ℕ
count_text journal complete = decimal (length journal) ++ codes " " ++ ending complete

-- the last line, without its LF
abbrev pub last_text : List Entry → Bool → List ℕ
last_text journal complete = codes "end " ++ count_text journal complete

-- version 1: the head, a line an entry, and the last line
abbrev pub journal_text : Network → List Entry → Bool → List ℕ
journal_text net journal complete =
    line (codes "polis journal 1") ++ flat_map (entry_line net) journal
    ++ line (last_text journal complete)

-- `@T` and a space, T being the stamp
abbrev pub stamp_text : ℕ → List ℕ
stamp_text stamp = codes "@" ++ decimal stamp ++ codes " "

-- the line of an entry with its stamp
abbrev pub stamped_line : Network → ℕ × Entry → List ℕ
stamped_line net (stamp, entry) = stamp_text stamp ++ entry_line net entry

-- version 2: the head, a line an entry with its stamp, and the last line
abbrev pub stamped_journal_text : Network → List Entry → List ℕ → Bool → List ℕ
stamped_journal_text net journal stamps complete =
    line (codes "polis journal 2") ++ flat_map (stamped_line net) (zip stamps journal)
    ++ line (last_text journal complete)

-- a stamp that an entry can have
abbrev pub is_stamp : ℕ → Bool
is_stamp stamp = nat_le 1 stamp && nat_le stamp max_stamp

-- one stamp for each entry, from 1 to the greatest
abbrev pub AreStamps : List Entry → List ℕ → Type 0
AreStamps journal stamps = IsTrue (list_all is_stamp stamps) × (length stamps ≡ length journal)

-- the line of an event
abbrev pub event_line : Network → ℕ × ℕ → List ℕ
event_line net p = line (event_item net p)

-- one line an emission to the environment
abbrev pub output_text : Network → List Entry → List ℕ
output_text net journal = flat_map (event_line net) (outputs net journal)
