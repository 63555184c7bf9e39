-- Which machines have a column in a chart, and how wide its columns are.
use Rattle.std.specs.Prelude.{ℕ, ◌+◌, ◌-◌, max, Bool, ◌||◌, ◌==◌, List, [], ◌∷◌, map, filter, filter_map, length, take, drop, Option, Some, None, codes}
use Rattle.std.specs.List.{list_any}
use Rattle.polis_base.specs.Lists.{upto}
use Rattle.transition_table.specs.NetworkNames.{machine_name}
use Rattle.transition_table.specs.declared.decl.Party.{Party}
use Rattle.transition_table.specs.declared.decl.Party.TheVariants.{Env, Machine as Sender}
use Rattle.transition_table.specs.declared.network.Network.{Network}
use Rattle.journals.specs.declared.entry.Entry.{Entry}
use Rattle.journals.specs.declared.entry.Entry.TheVariants.{Dep, Rea}
use Rattle.journals.specs.Journals.{same_party}
use Rattle.journal_text.specs.Texts.{event_item}

-- the entries from one place up to another: what a chart shows
abbrev pub shown : List Entry → ℕ → ℕ → List Entry
shown journal from to = take (to - from) (drop from journal)

-- the entry names the machine: as its sender or receiver, or as the one that reacts
abbrev pub names : ℕ → Entry → Bool
names m (Dep from to event code) = same_party from (Sender m) || to == m
names m (Rea k s o) = k == m

-- an entry that is shown names the machine
abbrev pub has_column : List Entry → ℕ → Bool
has_column entries m = list_any (names m) entries

-- the machines that have a column, by number
abbrev pub columns : Network → List Entry → List ℕ
columns net entries = filter (has_column entries) (upto (length net.machines))

-- the number of a party's column: the environment has the first one
abbrev pub column_of : List Entry → Party → ℕ
column_of entries Env = 0
column_of entries (Sender m) = 1 + length (filter (has_column entries) (upto m))

-- the names of the columns' parties
abbrev pub party_names : Network → List Entry → List (List ℕ)
party_names net entries = codes "env" ∷ map (machine_name net) (columns net entries)

-- what a delivery brings, as its line in the journal has it
abbrev pub item_of : Network → Entry → Option (List ℕ)
item_of net (Dep from to event code) = Some (event_item net (event, code))
item_of net (Rea m s o) = None

-- the greatest length of these texts
abbrev pub greatest : List (List ℕ) → ℕ
greatest [] = 0
greatest (text ∷ texts) = max (length text) (greatest texts)

-- how many bytes each column has
abbrev pub width_of : Network → List Entry → ℕ
width_of net entries =
    6 + max (greatest (party_names net entries)) (greatest (filter_map (item_of net) entries))
