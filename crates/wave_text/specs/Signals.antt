-- The signals of a network: what a wave shows of a run, and how it changes.
use Rattle.std.specs.Prelude.{ℕ, ◌+◌, Bool, true, false, cond, ◌==◌, List, [], ◌∷◌, ◌++◌, map, filter, filter_map, flat_map, length, take, slice_get, slice_set, Option, Some, None}
use Rattle.std.specs.Bool.{then_some}
use Rattle.std.specs.List.{enumerate_from, list_any}
use Rattle.std.specs.Option.{option_map_or}
use Rattle.polis_base.specs.Lists.{upto, last_of}
use Rattle.transition_table.specs.NetworkNames.{event_domain}
use Rattle.transition_table.specs.declared.network.Network.{Network}
use Rattle.journals.specs.declared.entry.Entry.{Entry}
use Rattle.journals.specs.Journals.{buffered, emissions, inputs_of, state, states_of}
use Rattle.journals.specs.Outputs.{goes_out}
use Rattle.event_accounts.specs.Accounts.{overwrites_at}
use Rattle.wave_text.specs.declared.signal.Change.{Change}
use Rattle.wave_text.specs.declared.signal.Signal.{Signal}
use Rattle.wave_text.specs.declared.signal.Signal.TheVariants.{Input, State, Loss, Emission, Value}

-- ---- which there are

-- what a machine's snapshots have: its inputs, and then its state variables
abbrev pub snapshot_signals : Network → ℕ → List Signal
snapshot_signals net m =
    map (Input m) (inputs_of net m) ++ map (State m) (upto (length (states_of net m)))

-- the losses of a machine's inputs
abbrev pub loss_signals : Network → ℕ → List Signal
loss_signals net m = map (Loss m) (inputs_of net m)

-- the signals of a machine
abbrev pub machine_signals : Network → ℕ → List Signal
machine_signals net m = snapshot_signals net m ++ loss_signals net m

-- the events to the environment, in order of declaration
abbrev pub out_events : Network → List ℕ
out_events net = filter (goes_out net) (upto (length net.events))

-- the event has a domain
abbrev pub has_values : Network → ℕ → Bool
has_values net e = option_map_or (λ d. true) (event_domain net e) false

-- the emissions of events to the environment
abbrev pub emission_signals : Network → List Signal
emission_signals net = map Emission (out_events net)

-- the values of those that have a domain
abbrev pub value_signals : Network → List Signal
value_signals net = map Value (filter (has_values net) (out_events net))

-- the signals of the network, numbered from 0 in this order
abbrev pub signals : Network → List Signal
signals net =
    flat_map (machine_signals net) (upto (length net.machines))
    ++ emission_signals net ++ value_signals net

-- the number of a machine's first signal, or of the first one after those of all machines
abbrev pub first_number : Network → ℕ → ℕ
first_number net m = length (flat_map (machine_signals net) (upto m))

-- ---- their codes

-- the code with which the event was last emitted, 0 where it wasn't
abbrev pub last_emitted : Network → List Entry → ℕ → ℕ
last_emitted net journal e =
    last_of 0
    (filter_map (λ (x, code). then_some (x == e) code) (flat_map (emissions net) journal))

-- the code of a signal after these entries; a loss and an emission have none
abbrev pub signal_code : Network → List Entry → Signal → Option ℕ
signal_code net journal (Input m e) = Some (buffered journal m e)
signal_code net journal (State m x) = Some (state net journal m x)
signal_code net journal (Loss m e) = None
signal_code net journal (Emission e) = None
signal_code net journal (Value e) = Some (last_emitted net journal e)

-- the codes of all signals
abbrev pub signal_codes : Network → List Entry → List (Option ℕ)
signal_codes net journal = map (signal_code net journal) (signals net)

-- ---- how they change

-- the entry emits the event
abbrev pub emits : Network → ℕ → Entry → Bool
emits net e entry = list_any (λ (x, code). x == e) (emissions net entry)

-- the entry at place p makes the signal happen: it loses what stood in the buffer, or emits the
-- event
abbrev pub happens_at : Network → List Entry → ℕ → Signal → Bool
happens_at net journal p (Input m e) = false
happens_at net journal p (State m x) = false
happens_at net journal p (Loss m e) = overwrites_at journal m e p
happens_at net journal p (Emission e) = option_map_or (emits net e) (slice_get journal p) false
happens_at net journal p (Value e) = false

-- both have no code, or the same
abbrev pub same_code : Option ℕ → Option ℕ → Bool
same_code None None = true
same_code (Some a) (Some b) = a == b
same_code None (Some b) = false
same_code (Some a) None = false

-- what the entry at place p makes of a signal: it happens, or has another code after the entry than
-- before it
abbrev pub change_at : Network → List Entry → ℕ → ℕ × Signal → Option Change
change_at net journal p (k, signal) =
    let before = signal_code net (take p journal) signal in
    let after = signal_code net (take (p + 1) journal) signal in
    cond (happens_at net journal p signal) (Some (record { signal = k; code = None }))
    (cond (same_code before after) None (Some (record { signal = k; code = after })))

-- what the entry at place p changes, in order of the signals
abbrev pub changes_at : Network → List Entry → ℕ → List Change
changes_at net journal p = filter_map (change_at net journal p) (enumerate_from 0 (signals net))

-- ---- played back

-- these codes, with the new codes of the changes put in one after the other
abbrev pub played : List (Option ℕ) → List Change → List (Option ℕ)
played codes [] = codes
played codes (change ∷ changes) =
    played (option_map_or (λ code. slice_set codes change.signal (Some code)) change.code codes)
    changes
