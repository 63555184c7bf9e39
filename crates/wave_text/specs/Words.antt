-- The names of signals, what a wave calls their kinds, and the words of their codes.
use Rattle.std.specs.Prelude.{ℕ, zero, suc, List, [], slice_get, Option, None, option_map, unwrap_or, codes}
use Rattle.std.specs.Option.{option_map_or}
use Rattle.domains.specs.Domains.{word_of}
use Rattle.transition_table.specs.NetworkNames.{event_domain, event_name}
use Rattle.transition_table.specs.declared.network.Network.{Network}
use Rattle.journals.specs.Journals.{states_of}
use Rattle.wave_text.specs.declared.signal.Signal.{Signal}
use Rattle.wave_text.specs.declared.signal.Signal.TheVariants.{Input, State, Loss, Emission, Value}

-- a state variable's name, and nothing where there is no such variable
abbrev pub state_name : Network → ℕ → ℕ → List ℕ
state_name net m x =
    unwrap_or (option_map (λ variable. variable.name) (slice_get (states_of net m) x)) []

abbrev pub name_of : Network → Signal → List ℕ
name_of net (Input m e) = event_name net e
name_of net (State m x) = state_name net m x
name_of net (Loss m e) = event_name net e
name_of net (Emission e) = event_name net e
name_of net (Value e) = event_name net e

-- a wire has one bit, a string has words, and an event happens
abbrev pub kind_of : Network → Signal → List ℕ
kind_of net (Input m e) = option_map_or (λ d. codes "string") (event_domain net e) (codes "wire")
kind_of net (State m x) = codes "string"
kind_of net (Loss m e) = codes "event"
kind_of net (Emission e) = codes "event"
kind_of net (Value e) = codes "string"

-- the domain of the words that a signal has, where it has words
abbrev pub domain_of : Network → Signal → Option ℕ
domain_of net (Input m e) = event_domain net e
domain_of net (State m x) = option_map (λ variable. variable.domain) (slice_get (states_of net m) x)
domain_of net (Loss m e) = None
domain_of net (Emission e) = None
domain_of net (Value e) = event_domain net e

-- the word of a value of the domain of this number
abbrev pub value_word : Network → ℕ → ℕ → List ℕ
value_word net d v =
    unwrap_or (option_map (λ domain. word_of domain v) (slice_get net.domains d)) []

-- the word of an event's code, `-` where it is absent
abbrev pub event_word : Network → ℕ → ℕ → List ℕ
event_word net d zero = codes "-"
event_word net d (suc v) = value_word net d v

-- the word of a signal's code: that of a state variable is its value, each other one is an event's
abbrev pub code_word : Network → Signal → ℕ → ℕ → List ℕ
code_word net (Input m e) d code = event_word net d code
code_word net (State m x) d code = value_word net d code
code_word net (Loss m e) d code = event_word net d code
code_word net (Emission e) d code = event_word net d code
code_word net (Value e) d code = event_word net d code
