-- The words of a drawing: what events, variables, codes and assignments are called.
use Rattle.std.specs.Prelude.{ℕ, zero, suc, ◌-◌, ◌%◌, cond, ◌==◌, nat_lt, List, [], ◌∷◌, ◌++◌, length, slice_get, Option, Some, None, option_map, unwrap_or, codes, decimal}
use Rattle.polis_base.specs.Lists.{numbered}
use Rattle.domains.specs.Domains.{size_of, word_of}
use Rattle.domains.specs.declared.domain.Domain.{Domain}
use Rattle.domains.specs.declared.domain.Domain.TheVariants.{Names, Range}
use Rattle.transition_table.specs.NetworkNames.{event_name, event_domain}
use Rattle.transition_table.specs.declared.decl.StateDecl.{StateDecl}
use Rattle.transition_table.specs.declared.machine.Machine.{Machine}
use Rattle.transition_table.specs.declared.network.Network.{Network}

-- ---- words in a row
-- What stands before the word of this number: nothing before the first one; a comma and a space
-- before the others, but after each sixth word a comma and `\n`, by which a label goes on in a new
-- line.
abbrev pub gap : ℕ → List ℕ
gap zero = []
gap (suc k) = cond (suc k % 6 == 0) (codes ",\\n") (codes ", ")

abbrev pub after_gap : ℕ → List ℕ → List ℕ
after_gap k word = gap k ++ word

-- words in order, six on a line
abbrev pub words_text : List (List ℕ) → List ℕ
words_text words = numbered after_gap 0 words

-- ---- domains
-- a domain as a network's text declares it, six names on a line
abbrev pub domain_text : Domain → List ℕ
domain_text (Names names) = codes "{ " ++ words_text names ++ codes " }"
domain_text (Range span) = decimal span.first ++ codes " .. " ++ decimal span.last

-- the word of a value that the domain has
abbrev pub domain_word : Domain → ℕ → List ℕ
domain_word domain v = cond (nat_lt v (size_of domain)) (word_of domain v) []

-- the word of a value of the domain of this number
abbrev pub value_word : Network → ℕ → ℕ → List ℕ
value_word net d v =
    unwrap_or (option_map (λ domain. domain_word domain v) (slice_get net.domains d)) []

-- ---- variables: the inputs come first, and then the state variables
-- the state variable of this number among the variables
abbrev pub state_at : Machine → ℕ → Option StateDecl
state_at m var = slice_get m.states (var - length m.inputs)

abbrev pub name_at : Network → Machine → ℕ → Option ℕ → List ℕ
name_at net m var (Some e) = event_name net e
name_at net m var None = unwrap_or (option_map (λ state. state.name) (state_at m var)) []

-- the name of a variable
abbrev pub var_name : Network → Machine → ℕ → List ℕ
var_name net m var = name_at net m var (slice_get m.inputs var)

-- the word of a present event's value; an event without a domain is only present
abbrev pub present_word : Network → Option ℕ → ℕ → List ℕ
present_word net None v = codes "present"
present_word net (Some d) v = value_word net d v

-- the word of an input's code
abbrev pub input_word : Network → ℕ → ℕ → List ℕ
input_word net e zero = codes "absent"
input_word net e (suc v) = present_word net (event_domain net e) v

abbrev pub word_at : Network → Machine → ℕ → ℕ → Option ℕ → List ℕ
word_at net m var code (Some e) = input_word net e code
word_at net m var code None =
    unwrap_or (option_map (λ state. value_word net state.domain code) (state_at m var)) []

-- the word of a variable's code
abbrev pub code_word : Network → Machine → ℕ → ℕ → List ℕ
code_word net m var code = word_at net m var code (slice_get m.inputs var)

-- ---- what giving a result a code is called; the code 0 does nothing
abbrev pub go_label : ℕ → List ℕ
go_label zero = codes "go 0"
go_label (suc v) = codes "go"

abbrev pub set_label : Network → StateDecl → ℕ → List ℕ
set_label net state zero = state.name ++ codes " keeps"
set_label net state (suc v) = state.name ++ codes " := " ++ value_word net state.domain v

-- the value with which an event is emitted, where it has a domain
abbrev pub emitted_value : Network → Option ℕ → ℕ → List ℕ
emitted_value net None v = []
emitted_value net (Some d) v = codes " = " ++ value_word net d v

abbrev pub emit_label : Network → ℕ → ℕ → List ℕ
emit_label net e zero = codes "no " ++ event_name net e
emit_label net e (suc v) =
    codes "emit " ++ event_name net e ++ emitted_value net (event_domain net e) v

-- the result of this number after `go`: the state variables come first, and then the outputs
abbrev pub result_label : Network → Machine → ℕ → ℕ → Option StateDecl → List ℕ
result_label net m k code (Some state) = set_label net state code
result_label net m k code None =
    unwrap_or
    (option_map (λ e. emit_label net e code) (slice_get m.outputs (k - length m.states))) []

-- `go`, `S := V`, `emit E` or `emit E = V`, and with the code 0 `go 0`, `S keeps` or `no E`
abbrev pub assign_label : Network → Machine → ℕ → ℕ → List ℕ
assign_label net m zero code = go_label code
assign_label net m (suc k) code = result_label net m k code (slice_get m.states k)
