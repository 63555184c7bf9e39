-- What a trace text says: its items, or the first line at fault.
use Rattle.std.specs.Prelude.{ℕ, cond, Bool, false, ◌&&◌, nat_lt, List, [], ◌∷◌, ◌++◌, length, fold, slice_get, Option, Some, None, option_map, unwrap_or, Result, Ok, Err, codes, IsTrue, ⊤}
use Rattle.std.specs.List.{find, enumerate_from}
use Rattle.polis_base.specs.Lists.{upto}
use Rattle.polis_base.specs.declared.limits.TheConstants.{TRACE_ITEMS_MAX}
use Rattle.domains.specs.Names.{is_same}
use Rattle.transition_table.specs.NetworkNames.{event_domain}
use Rattle.transition_table.specs.declared.decl.Party.TheVariants.{Env}
use Rattle.transition_table.specs.declared.decl.EventDecl.{EventDecl}
use Rattle.transition_table.specs.declared.network.Network.{Network}
use Rattle.journals.specs.declared.entry.TraceItem.{TraceItem}
use Rattle.journals.specs.declared.entry.TraceItem.TheVariants.{Event as EventItem, Settle}
use Rattle.journals.specs.Journals.{same_party, is_trace_item}
use Rattle.trace_text.specs.Pieces.{trace_lines, without_comment, trace_words}
use Rattle.trace_text.specs.declared.fault.TraceKind.{TraceKind}
use Rattle.trace_text.specs.declared.fault.TraceKind.TheVariants.{Shape, Event, Value, Many}
use Rattle.trace_text.specs.declared.fault.TraceFault.{TraceFault}
use Rattle.trace_text.specs.declared.fault.TraceFault.TheVariants.{Line}
use Rattle.journals.specs.ValueWords.{word_code}

-- the environment sends an event of this name
abbrev pub is_sent : List ℕ → EventDecl → Bool
is_sent word event = is_same event.name word && same_party event.sender Env

-- the event of this number is one of this name that the environment sends
abbrev pub is_sent_event : Network → List ℕ → ℕ → Bool
is_sent_event net word e = unwrap_or (option_map (is_sent word) (slice_get net.events e)) false

-- the number of the event of this name that the environment sends
abbrev pub env_event : Network → List ℕ → Option ℕ
env_event net word = find (is_sent_event net word) (upto (length net.events))

-- the item of an event with its code
abbrev pub coded : ℕ → Option ℕ → Result (Option TraceItem) TraceKind
coded e None = Err Value
coded e (Some code) = Ok (Some (EventItem e code))

-- the item of an event with the word after its name
abbrev pub sent_item : Network → Option ℕ → Option (List ℕ) → Result (Option TraceItem) TraceKind
sent_item net None word = Err Event
sent_item net (Some e) word = coded e (word_code net (event_domain net e) word)

abbrev pub is_settle : List ℕ → Bool
is_settle word = is_same word (codes "settle")

-- the item that the words of a line are, none where there is no word, or the first kind of fault
abbrev pub item_of_words : Network → List (List ℕ) → Result (Option TraceItem) TraceKind
item_of_words net [] = Ok None
item_of_words net (word ∷ []) =
    cond (is_settle word) (Ok (Some Settle)) (sent_item net (env_event net word) None)
item_of_words net (word ∷ value ∷ []) =
    cond (is_settle word) (Err Shape) (sent_item net (env_event net word) (Some value))
item_of_words net (word ∷ value ∷ more ∷ words) = Err Shape

abbrev pub item_of_line : Network → List ℕ → Result (Option TraceItem) TraceKind
item_of_line net line = item_of_words net (trace_words (without_comment line))

-- an item that a line is fits the network
abbrev pub AddsItem : Network → Result (Option TraceItem) TraceKind → Type 0
AddsItem net (Err kind) = ⊤
AddsItem net (Ok None) = ⊤
AddsItem net (Ok (Some item)) = IsTrue (is_trace_item net item)

-- what a line of this number adds to the items before it: an item where there are fewer than
-- 10,000, or a fault
abbrev pub added : List TraceItem → ℕ → Result (Option TraceItem) TraceKind
    → Result (List TraceItem) TraceFault
added items line (Err kind) = Err (Line line kind)
added items line (Ok None) = Ok items
added items line (Ok (Some item)) =
    cond (nat_lt (length items) TRACE_ITEMS_MAX) (Ok (items ++ item ∷ [])) (Err (Line line Many))

-- one more line with its number after those that were read; the first fault stays
abbrev pub with_line : Network → Result (List TraceItem) TraceFault → ℕ × List ℕ
    → Result (List TraceItem) TraceFault
with_line net (Err fault) (line, text) = Err fault
with_line net (Ok items) (line, text) = added items line (item_of_line net text)

-- the items of a text, or the first line at fault, where lines are numbered from 1
abbrev pub trace_of : Network → List ℕ → Result (List TraceItem) TraceFault
trace_of net text = fold (with_line net) (Ok []) (enumerate_from 1 (trace_lines text))
