-- What the words of an entry's line name: items, codes and entries.
use Rattle.std.specs.Prelude.{ℕ, ◌-◌, cond, Bool, true, false, ◌==◌, List, [], ◌∷◌, ◌++◌, map, length, Option, Some, None, option_map, Result, Ok, Err, replicate, codes}
use Rattle.std.specs.List.{find}
use Rattle.polis_base.specs.Lists.{upto}
use Rattle.domains.specs.Names.{is_same}
use Rattle.transition_table.specs.NetworkNames.{event_domain, event_name, machine_name}
use Rattle.transition_table.specs.declared.decl.Party.{Party}
use Rattle.transition_table.specs.declared.decl.Party.TheVariants.{Env, Machine as Sender}
use Rattle.transition_table.specs.declared.decl.StateDecl.{StateDecl}
use Rattle.transition_table.specs.declared.network.Network.{Network}
use Rattle.journals.specs.declared.entry.Entry.{Entry}
use Rattle.journals.specs.declared.entry.Entry.TheVariants.{Dep, Rea}
use Rattle.journals.specs.ValueWords.{word_code}
use Rattle.journals.specs.Journals.{inputs_of, outputs_of, states_of}
use Rattle.journal_text.specs.Forms.{Text, Texts, EntryForm, DepForm, FireForm, IdleForm}
use Rattle.journal_text.specs.declared.fault.JournalKind.{JournalKind}
use Rattle.journal_text.specs.declared.fault.JournalKind.TheVariants.{Name, Value}

-- `=`
abbrev pub is_equals : ℕ → Bool
is_equals c = c == 61

-- an item up to its first `=`
abbrev pub name_part : Text → Text
name_part [] = []
name_part (c ∷ rest) = cond (is_equals c) [] (c ∷ name_part rest)

-- what stands after the first `=` of an item, where there is one
abbrev pub value_part_of : Text → Option Text
value_part_of [] = None
value_part_of (c ∷ rest) = cond (is_equals c) (Some rest) (value_part_of rest)

-- the number of the machine, and of the event, of this name
abbrev pub machine_named : Network → Text → Option ℕ
machine_named net word = find (λ m. is_same (machine_name net m) word) (upto (length net.machines))

abbrev pub event_named : Network → Text → Option ℕ
event_named net word = find (λ e. is_same (event_name net e) word) (upto (length net.events))

-- `env`, or the name of a machine
abbrev pub party_named : Network → Text → Option Party
party_named net word =
    cond (is_same word (codes "env")) (Some Env)
    (option_map (λ m. Sender m) (machine_named net word))

-- what an item can name: an event or a state variable by its name, with the number of its domain,
-- where it has one
abbrev pub Named : Type 0
Named = Text × Option ℕ

abbrev pub as_event : Network → ℕ → Named
as_event net e = (event_name net e, event_domain net e)

abbrev pub as_state : StateDecl → Named
as_state variable = (variable.name, Some variable.domain)

-- the item has this name
abbrev pub has_name : Named → Text → Bool
has_name named item = is_same named.0 (name_part item)

-- the code that an item gives what it names
abbrev pub item_code : Network → Named → Text → Option ℕ
item_code net named item = word_code net named.1 (value_part_of item)

-- one code more in front; a value at fault comes before what is after it
abbrev pub with_code : Option ℕ → Result (List ℕ) JournalKind → Result (List ℕ) JournalKind
with_code None rest = Err Value
with_code (Some code) (Err kind) = Err kind
with_code (Some code) (Ok codes) = Ok (code ∷ codes)

-- The codes of a list whose items name some of these things, in their order; what isn't named has
-- the code 0. Items that name none of those after the item before are at fault.
abbrev pub some_codes : Network → List Named → Texts → Result (List ℕ) JournalKind
some_codes net [] [] = Ok []
some_codes net [] (item ∷ items) = Err Name
some_codes net (named ∷ rest) [] = with_code (Some 0) (some_codes net rest [])
some_codes net (named ∷ rest) (item ∷ items) =
    with_code (cond (has_name named item) (item_code net named item) (Some 0))
    (some_codes net rest (cond (has_name named item) items (item ∷ items)))

-- the values of a list whose items name all of these things, in their order
abbrev pub all_values : Network → List Named → Texts → Result (List ℕ) JournalKind
all_values net [] [] = Ok []
all_values net [] (item ∷ items) = Err Name
all_values net (named ∷ rest) [] = Err Name
all_values net (named ∷ rest) (item ∷ items) =
    cond (has_name named item)
    (with_code (option_map (λ code. code - 1) (item_code net named item))
    (all_values net rest items)) (Err Name)

-- the first of two results that is at fault, or both
abbrev pub both_read : {A B : Type 0} → Result A JournalKind → Result B JournalKind
    → Result (A × B) JournalKind
both_read (Err kind) b = Err kind
both_read (Ok a) (Err kind) = Err kind
both_read (Ok a) (Ok b) = Ok (a, b)

abbrev pub map_read : {A B : Type 0} → (A → B) → Result A JournalKind → Result B JournalKind
map_read f (Err kind) = Err kind
map_read f (Ok a) = Ok (f a)

-- `I ; X` of a machine: the codes of its inputs, and the values of its state variables
abbrev pub snapshot_read : Network → ℕ → Texts × Texts → Result (List ℕ × List ℕ) JournalKind
snapshot_read net m (present, values) =
    both_read (some_codes net (map (as_event net) (inputs_of net m)) present)
    (all_values net (map as_state (states_of net m)) values)

-- `N ; O` of a machine: what its state variables are set to, and what it emits
abbrev pub result_read : Network → ℕ → Texts × Texts → Result (List ℕ × List ℕ) JournalKind
result_read net m (set, emitted) =
    both_read (some_codes net (map as_state (states_of net m)) set)
    (some_codes net (map (as_event net) (outputs_of net m)) emitted)

abbrev pub fired : ℕ → (List ℕ × List ℕ) × (List ℕ × List ℕ) → Entry
fired m ((present, values), (next, outs)) =
    Rea m (record { codes = present ++ values }) (record { fires = true; next = next; outs = outs })

abbrev pub idled : Network → ℕ → List ℕ × List ℕ → Entry
idled net m (present, values) =
    Rea m (record { codes = present ++ values })
    (record {
      fires = false;
      next = replicate (length (states_of net m)) 0;
      outs = replicate (length (outputs_of net m)) 0;
    })

-- a delivery: names come before the value
abbrev pub delivery_read : Option Party → Option ℕ → Option ℕ → Option ℕ → Result Entry JournalKind
delivery_read None to event code = Err Name
delivery_read (Some from) None event code = Err Name
delivery_read (Some from) (Some to) None code = Err Name
delivery_read (Some from) (Some to) (Some event) None = Err Value
delivery_read (Some from) (Some to) (Some event) (Some code) = Ok (Dep from to event code)

-- the code of an event that an item gives
abbrev pub event_code : Network → Option ℕ → Text → Option ℕ
event_code net None item = None
event_code net (Some e) item = item_code net (as_event net e) item

abbrev pub firing_read : Network → Option ℕ → Texts × Texts → Texts × Texts
    → Result Entry JournalKind
firing_read net None seen given = Err Name
firing_read net (Some m) seen given =
    map_read (fired m) (both_read (snapshot_read net m seen) (result_read net m given))

abbrev pub idle_read : Network → Option ℕ → Texts × Texts → Result Entry JournalKind
idle_read net None seen = Err Name
idle_read net (Some m) seen = map_read (idled net m) (snapshot_read net m seen)

-- the entry that a line of this form names, or the kind of its first item at fault
abbrev pub entry_read : Network → EntryForm → Result Entry JournalKind
entry_read net (DepForm from to event) =
    delivery_read (party_named net from) (machine_named net to) (event_named net (name_part event))
    (event_code net (event_named net (name_part event)) event)
entry_read net (FireForm machine seen given) =
    firing_read net (machine_named net machine) seen given
entry_read net (IdleForm machine seen) = idle_read net (machine_named net machine) seen
