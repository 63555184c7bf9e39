-- Entries that fit a network, and what a journal says at a moment: the places, the states, and what
-- was sent and delivered.
use Rattle.std.specs.Prelude.{ℕ, zero, suc, Bool, true, false, cond, ◌&&◌, ◌==◌, nat_lt, nat_le, List, [], ◌∷◌, ◌++◌, map, filter, filter_map, flat_map, length, slice_get, slice_index, Option, Some, None, option_map, unwrap_or, IsTrue, ⊤}
use Rattle.std.specs.List.{list_any, list_all, after_last}
use Rattle.std.specs.Bool.{then_some}
use Rattle.polis_base.specs.Lists.{upto, last_of}
use Rattle.transition_table.specs.NetworkFacts.{has, event_values}
use Rattle.transition_table.specs.Transitions.{OfMachine, IsSnapshot, IsOutcome}
use Rattle.transition_table.specs.declared.decl.Party.{Party}
use Rattle.transition_table.specs.declared.decl.Party.TheVariants.{Env, Machine as Sender}
use Rattle.transition_table.specs.declared.decl.StateDecl.{StateDecl}
use Rattle.transition_table.specs.declared.network.Network.{Network}
use Rattle.transition_table.specs.declared.snapshot.Snapshot.{Snapshot}
use Rattle.journals.specs.declared.entry.Entry.{Entry}
use Rattle.journals.specs.declared.entry.Entry.TheVariants.{Dep, Rea}
use Rattle.journals.specs.declared.entry.TraceItem.{TraceItem}
use Rattle.journals.specs.declared.entry.TraceItem.TheVariants.{Event, Settle}

-- the lists of a machine by its number, and none where there is no such machine
abbrev pub inputs_of : Network → ℕ → List ℕ
inputs_of net m = unwrap_or (option_map (λ machine. machine.inputs) (slice_get net.machines m)) []

abbrev pub outputs_of : Network → ℕ → List ℕ
outputs_of net m = unwrap_or (option_map (λ machine. machine.outputs) (slice_get net.machines m)) []

abbrev pub states_of : Network → ℕ → List StateDecl
states_of net m = unwrap_or (option_map (λ machine. machine.states) (slice_get net.machines m)) []

-- the machine reads the event
abbrev pub reads : Network → ℕ → ℕ → Bool
reads net m e = has (inputs_of net m) e

abbrev pub same_party : Party → Party → Bool
same_party Env Env = true
same_party (Sender j) (Sender k) = j == k
same_party Env (Sender k) = false
same_party (Sender j) Env = false

-- the environment, or a machine of the network
abbrev pub is_party : Network → Party → Bool
is_party net Env = true
is_party net (Sender m) = nat_lt m (length net.machines)

-- the event is of the network, and the code is 1 + v for a value v of it, or 1 where it is pure
abbrev pub is_event_code : Network → ℕ → ℕ → Bool
is_event_code net e code =
    nat_lt e (length net.events) && nat_le 1 code
    && nat_le code (event_values net.domains net.events e)

-- the entry fits the network
abbrev pub FitsNetwork : Network → Entry → Type 0
FitsNetwork net (Dep from to event code) =
    IsTrue (is_party net from && nat_lt to (length net.machines) && is_event_code net event code)
FitsNetwork net (Rea m s o) =
    OfMachine net m (λ machine. IsSnapshot machine s × IsOutcome machine o)

-- each entry fits
abbrev pub IsJournal : Network → List Entry → Type 0
IsJournal net [] = ⊤
IsJournal net (entry ∷ entries) = FitsNetwork net entry × IsJournal net entries

-- each event item names an event that the environment sends, with a code of it
abbrev pub is_trace_item : Network → TraceItem → Bool
is_trace_item net Settle = true
is_trace_item net (Event e code) =
    is_event_code net e code
    && unwrap_or (option_map (λ event. same_party event.sender Env) (slice_get net.events e)) false

abbrev pub IsTrace : Network → List TraceItem → Type 0
IsTrace net items = IsTrue (list_all (is_trace_item net) items)

-- a firing of the machine
abbrev pub is_firing_of : ℕ → Entry → Bool
is_firing_of m (Dep from to event code) = false
is_firing_of m (Rea k s o) = k == m && o.fires

-- a reaction of the machine
abbrev pub is_reaction_of : ℕ → Entry → Bool
is_reaction_of m (Dep from to event code) = false
is_reaction_of m (Rea k s o) = k == m

-- a delivery to the machine
abbrev pub is_delivery_to : ℕ → Entry → Bool
is_delivery_to m (Dep from to event code) = to == m
is_delivery_to m (Rea k s o) = false

-- the code that the entry delivers of the event to the machine
abbrev pub code_brought : ℕ → ℕ → Entry → Option ℕ
code_brought m e (Dep from to event code) = then_some (to == m && event == e) code
code_brought m e (Rea k s o) = None

-- the code of the last delivery of e to m after m's last firing, 0 where there is none
abbrev pub buffered : List Entry → ℕ → ℕ → ℕ
buffered journal m e =
    last_of 0 (filter_map (code_brought m e) (after_last (is_firing_of m) journal))

-- a result's code 1 + v sets v, and code 0 keeps
abbrev pub value_set : ℕ → Option ℕ
value_set zero = None
value_set (suc v) = Some v

-- the value to which the entry, a firing of m, sets the x-th state variable
abbrev pub value_given : ℕ → ℕ → Entry → Option ℕ
value_given m x (Dep from to event code) = None
value_given m x (Rea k s o) = cond (k == m && o.fires) (value_set (slice_index o.next x)) None

-- the value at the start
abbrev pub initial : Network → ℕ → ℕ → ℕ
initial net m x =
    unwrap_or (option_map (λ variable. variable.init) (slice_get (states_of net m) x)) 0

-- the value to which m's last firing that sets x sets it, or its initial value
abbrev pub state : Network → List Entry → ℕ → ℕ → ℕ
state net journal m x = last_of (initial net m x) (filter_map (value_given m x) journal)

-- the snapshot of m after these entries
abbrev pub snap : Network → List Entry → ℕ → Snapshot
snap net journal m =
    record {
      codes =
          map (buffered journal m) (inputs_of net m)
          ++ map (state net journal m) (upto (length (states_of net m)));
    }

-- a delivery to m stands after m's last reaction, or anywhere where m has none
abbrev pub is_woken : List Entry → ℕ → Bool
is_woken journal m = list_any (is_delivery_to m) (after_last (is_reaction_of m) journal)

-- the events with a code above 0, in order of the output list
abbrev pub emitted : List ℕ → List ℕ → List (ℕ × ℕ)
emitted (e ∷ events) (zero ∷ codes) = emitted events codes
emitted (e ∷ events) (suc v ∷ codes) = (e, suc v) ∷ emitted events codes
emitted [] codes = []
emitted (e ∷ events) [] = []

-- what an entry emits, events with their codes: only a firing does
abbrev pub emissions : Network → Entry → List (ℕ × ℕ)
emissions net (Dep from to event code) = []
emissions net (Rea m s o) = cond o.fires (emitted (outputs_of net m) o.outs) []

abbrev pub event_of : TraceItem → Option (ℕ × ℕ)
event_of (Event e code) = Some (e, code)
event_of Settle = None

-- what s has sent to m: of a machine the emissions of its firings, of the environment the events of
-- the trace, that m reads
abbrev pub sent : Network → List TraceItem → Party → ℕ → List Entry → List (ℕ × ℕ)
sent net trace Env m journal = filter (λ p. reads net m p.0) (filter_map event_of trace)
sent net trace (Sender s) m journal =
    filter (λ p. reads net m p.0) (flat_map (emissions net) (filter (is_firing_of s) journal))

abbrev pub delivery : Party → ℕ → Entry → Option (ℕ × ℕ)
delivery s m (Dep from to event code) = then_some (same_party from s && to == m) (event, code)
delivery s m (Rea k o c) = None

-- what s has delivered to m
abbrev pub delivered : Party → ℕ → List Entry → List (ℕ × ℕ)
delivered s m journal = filter_map (delivery s m) journal

-- what s is to deliver to m next, if there is anything
abbrev pub next_of : Network → List TraceItem → List Entry → Party → ℕ → Option (ℕ × ℕ)
next_of net trace journal s m =
    slice_get (sent net trace s m journal) (length (delivered s m journal))
