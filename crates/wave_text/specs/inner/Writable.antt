-- Signals of a network, and codes that they can have.
use Rattle.std.specs.Prelude.{ℕ, ◌+◌, Bool, true, false, ◌&&◌, nat_lt, length, slice_get, Option, Some, option_map, unwrap_or}
use Rattle.std.specs.Option.{option_map_or}
use Rattle.transition_table.specs.NetworkFacts.{event_values, values_of}
use Rattle.transition_table.specs.declared.network.Network.{Network}
use Rattle.journals.specs.Journals.{states_of}
use Rattle.wave_text.specs.Signals.{signals}
use Rattle.wave_text.specs.declared.signal.Change.{Change}
use Rattle.wave_text.specs.declared.signal.Signal.{Signal}
use Rattle.wave_text.specs.declared.signal.Signal.TheVariants.{Input, State, Loss, Emission, Value}

-- what it names is of the network
abbrev pub is_signal : Network → Signal → Bool
is_signal net (Input m e) = nat_lt e (length net.events)
is_signal net (State m x) = nat_lt m (length net.machines) && nat_lt x (length (states_of net m))
is_signal net (Loss m e) = nat_lt e (length net.events)
is_signal net (Emission e) = nat_lt e (length net.events)
is_signal net (Value e) = nat_lt e (length net.events)

-- how many codes an event has: 0, and one for each value
abbrev pub event_codes : Network → ℕ → ℕ
event_codes net e = 1 + event_values net.domains net.events e

-- how many codes a state variable has
abbrev pub state_codes : Network → ℕ → ℕ → ℕ
state_codes net m x =
    unwrap_or
    (option_map (λ variable. values_of net.domains (Some variable.domain))
    (slice_get (states_of net m) x)) 0

-- how many codes a signal has; a loss and an emission have none
abbrev pub code_count : Network → Signal → ℕ
code_count net (Input m e) = event_codes net e
code_count net (State m x) = state_codes net m x
code_count net (Loss m e) = 0
code_count net (Emission e) = 0
code_count net (Value e) = event_codes net e

-- the code, if it is one, is one of the signal's
abbrev pub has_code : Network → Signal → Option ℕ → Bool
has_code net signal code = option_map_or (λ c. nat_lt c (code_count net signal)) code true

-- the change is one of a signal, to a code of it
abbrev pub is_writable : Network → Change → Bool
is_writable net change =
    option_map_or (λ signal. is_signal net signal && has_code net signal change.code)
    (slice_get (signals net) change.signal) false
