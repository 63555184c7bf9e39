-- What the names of declarations stand for, whatever the places are.
use Rattle.std.proofs.Common.{◌≡◌, ℕ, ◌+◌, Bool, true, false, cond, List, [], ◌∷◌, ◌++◌, map, flat_map, Option, Some, None, refl, sym, ap, ◌∙◌}
use Rattle.std.specs.Prelude.{find, filter, option_map, option_to_list, unwrap_or, is_some}
use Rattle.std.proofs.lemmas.List.{map-append}
use Rattle.domains.specs.Names.{is_same}
use Rattle.net_reader.specs.declared.raw.Word.{Word}
use Rattle.net_reader.specs.declared.raw.RawValue.{RawValue}
use Rattle.net_reader.specs.declared.raw.RawShape.{RawShape}
use Rattle.net_reader.specs.declared.raw.RawDomain.{RawDomain}
use Rattle.net_reader.specs.declared.raw.RawEnv.{RawEnv}
use Rattle.net_reader.specs.declared.raw.RawEvent.{RawEvent}
use Rattle.net_reader.specs.declared.raw.RawState.{RawState}
use Rattle.net_reader.specs.declared.raw.RawCond.{RawCond}
use Rattle.net_reader.specs.declared.raw.RawCond.TheVariants as conds
use Rattle.net_reader.specs.declared.raw.RawMachine.{RawMachine}
use Rattle.net_reader.specs.declared.raw.RawNet.{RawNet}
use Rattle.net_reader.specs.Places.{word_alone, value_alone, shape_alone, domain_alone, typed_alone, event_alone, state_alone, cond_alone, machine_alone, without_places}
use Rattle.net_names.specs.Numbers.{is_among, is_name_of}
use Rattle.net_names.specs.Values.{count_of, is_value, no_value, place_of}
use Rattle.net_names.specs.Scopes.{domain_words, event_words, machine_words, state_words, all_outputs, all_inputs, shape_of, event_domain, state_domain, var_domain, shape_at, count_at, event_codes, state_codes, cond_word, var_sizes, var_words}
use Rattle.rule_judge.specs.Rules.{events_where, used_domains}
use Rattle.net_gen.proofs.WithoutPlaces.{empty, unless_alone, names_alone, find_alone, shape_of_alone, event_domain_alone, is_value_alone, count_alone}

-- ---- lists of words

pub map_alone : {X Y Z : Type 0} (f : Y → Z) (g : X → Z) (h : X → Y)
    → ((x : X) → f (h x) ≡ g x) → (xs : List X) → map f (map h xs) ≡ map g xs
map_alone f g h alike [] = refl
map_alone f g h alike (x ∷ xs) =
    ap (λ y. y ∷ map f (map h xs)) (alike x) ∙ ap (λ ys. g x ∷ ys) (map_alone f g h alike xs)

-- the words of each item
pub words_alone : {X : Type 0} (word : X → Word) (h : X → X)
    → ((x : X) → word (h x) ≡ word_alone (word x)) → (xs : List X)
    → map word (map h xs) ≡ map word_alone (map word xs)
words_alone word h alike [] = refl
words_alone word h alike (x ∷ xs) =
    ap (λ (w : Word). w ∷ map word (map h xs)) (alike x)
    ∙ ap (λ (ws : List Word). word_alone (word x) ∷ ws) (words_alone word h alike xs)

pub flat_words : {X : Type 0} (f : X → List Word) (h : X → X)
    → ((x : X) → f (h x) ≡ map word_alone (f x)) → (xs : List X)
    → flat_map f (map h xs) ≡ map word_alone (flat_map f xs)
flat_words f h alike [] = refl
flat_words f h alike (x ∷ xs) =
    ap (λ (ws : List Word). ws ++ flat_map f (map h xs)) (alike x)
    ∙ ap (λ (ws : List Word). map word_alone (f x) ++ ws) (flat_words f h alike xs)
    ∙ sym (map-append word_alone (f x) (flat_map f xs))

pub is_name_alone : (ws : List Word) (name : List ℕ)
    → is_name_of (map word_alone ws) name ≡ is_name_of ws name
is_name_alone ws name = ap (λ (ns : List (List ℕ)). is_among ns name) (names_alone ws)

pub domain_words_alone : (net : RawNet)
    → domain_words (without_places net) ≡ map word_alone (domain_words net)
domain_words_alone net =
    words_alone (λ (d : RawDomain). d.name) domain_alone (λ d. refl) net.domains

pub event_words_alone : (net : RawNet)
    → event_words (without_places net) ≡ map word_alone (event_words net)
event_words_alone net = words_alone (λ (e : RawEvent). e.name) event_alone (λ e. refl) net.events

pub machine_words_alone : (net : RawNet)
    → machine_words (without_places net) ≡ map word_alone (machine_words net)
machine_words_alone net =
    words_alone (λ (m : RawMachine). m.name) machine_alone (λ m. refl) net.machines

pub state_words_alone : (m : RawMachine)
    → state_words (machine_alone m) ≡ map word_alone (state_words m)
state_words_alone m = words_alone (λ (s : RawState). s.name) state_alone (λ s. refl) m.states

pub all_outputs_alone : (net : RawNet)
    → all_outputs (without_places net) ≡ map word_alone (all_outputs net)
all_outputs_alone net =
    flat_words (λ (m : RawMachine). m.outputs) machine_alone (λ m. refl) net.machines

pub all_inputs_alone : (net : RawNet)
    → all_inputs (without_places net) ≡ map word_alone (all_inputs net)
all_inputs_alone net =
    flat_words (λ (m : RawMachine). m.inputs) machine_alone (λ m. refl) net.machines

pub ports_alone : (m : RawMachine)
    → (machine_alone m).inputs ++ (machine_alone m).outputs
    ≡ map word_alone (m.inputs ++ m.outputs)
ports_alone m = sym (map-append word_alone m.inputs m.outputs)

pub var_words_alone : (m : RawMachine)
    → var_words (machine_alone m) ≡ map word_alone (var_words m)
var_words_alone m =
    ap (λ (ws : List Word). map word_alone m.inputs ++ ws) (state_words_alone m)
    ∙ sym (map-append word_alone m.inputs (state_words m))

pub used_domains_alone : (net : RawNet)
    → used_domains (without_places net) ≡ map word_alone (used_domains net)
used_domains_alone net =
    let A : RawNet → List Word = λ n.
    flat_map (λ (e : RawEvent). option_to_list e.domain) n.events in
    let B : RawNet → List Word = λ n.
    flat_map (λ (m : RawMachine). map (λ (s : RawState). s.domain) m.states) n.machines in
    let of_events : A (without_places net) ≡ map word_alone (A net) =
    flat_words (λ (e : RawEvent). option_to_list e.domain) event_alone (λ e. typed e.domain)
    net.events in
    let of_machines : B (without_places net) ≡ map word_alone (B net) =
    flat_words (λ (m : RawMachine). map (λ (s : RawState). s.domain) m.states) machine_alone
    (λ m. words_alone (λ (s : RawState). s.domain) state_alone (λ s. refl) m.states) net.machines in
    ap (λ (ws : List Word). ws ++ B (without_places net)) of_events
    ∙ ap (λ (ws : List Word). map word_alone (A net) ++ ws) of_machines
    ∙ sym (map-append word_alone (A net) (B net))
  where
    typed : (o : Option Word) → option_to_list (typed_alone o) ≡ map word_alone (option_to_list o)
    typed None = refl
    typed (Some w) = refl

pub events_where_alone : (test : RawEnv → Bool) (net : RawNet)
    → events_where test (without_places net) ≡ map word_alone (events_where test net)
events_where_alone test net = each net.events
  where
    each : (es : List RawEvent)
        → map (λ (e : RawEvent). e.name)
        (filter (λ (e : RawEvent). test e.env) (map event_alone es))
        ≡ map word_alone
        (map (λ (e : RawEvent). e.name) (filter (λ (e : RawEvent). test e.env) es))
    each [] = refl
    each (e ∷ es) =
        let rest : List RawEvent = filter (λ (v : RawEvent). test v.env) (map event_alone es) in
        let own : List RawEvent = filter (λ (v : RawEvent). test v.env) es in
        let names : List RawEvent → List Word = λ vs. map (λ (v : RawEvent). v.name) vs in
        elim (test e.env) as (λ b. names (cond b (event_alone e ∷ rest) rest)
        ≡ map word_alone (names (cond b (e ∷ own) own))) [
          | true ↦ ap (λ (ws : List Word). word_alone e.name ∷ ws) (each es)
          | false ↦ each es
        ]

-- ---- domains and values

pub state_domain_alone : (m : RawMachine) (name : List ℕ)
    → state_domain (machine_alone m) name ≡ typed_alone (state_domain m name)
state_domain_alone m name =
    let is_it : RawState → Bool = λ s. is_same name s.name.name in
    ap (option_map (λ (s : RawState). s.domain))
    (find_alone is_it is_it state_alone (λ s. refl) m.states)
    ∙ outer (find (λ (s : RawState). is_same name s.name.name) m.states)
  where
    outer : (o : Option RawState)
        → option_map (λ (s : RawState). s.domain) (option_map state_alone o)
        ≡ typed_alone (option_map (λ (s : RawState). s.domain) o)
    outer None = refl
    outer (Some s) = refl

pub var_domain_alone : (net : RawNet) (m : RawMachine) (name : List ℕ)
    → var_domain (without_places net) (machine_alone m) name ≡ typed_alone (var_domain net m name)
var_domain_alone net m name =
    let is_state : is_name_of (state_words (machine_alone m)) name
    ≡ is_name_of (state_words m) name =
    ap (λ (ws : List Word). is_name_of ws name) (state_words_alone m)
    ∙ is_name_alone (state_words m) name in
    ap (λ (b : Bool). cond b (state_domain (machine_alone m) name)
    (event_domain (without_places net) name)) is_state
    ∙ by (is_name_of (state_words m) name)
  where
    by : (b : Bool)
        → cond b (state_domain (machine_alone m) name) (event_domain (without_places net) name)
        ≡ typed_alone (cond b (state_domain m name) (event_domain net name))
    by true = state_domain_alone m name
    by false = event_domain_alone net name

pub is_typed_alone : (o : Option Word) → is_some (typed_alone o) ≡ is_some o
is_typed_alone None = refl
is_typed_alone (Some w) = refl

pub shape_at_alone : (net : RawNet) (o : Option Word)
    → shape_at (without_places net) (typed_alone o) ≡ option_map shape_alone (shape_at net o)
shape_at_alone net None = refl
shape_at_alone net (Some w) = shape_of_alone net w.name

pub count_at_alone : (net : RawNet) (o : Option Word)
    → count_at (without_places net) (typed_alone o) ≡ count_at net o
count_at_alone net None = refl
count_at_alone net (Some w) =
    ap (λ (s : Option RawShape). unwrap_or (option_map count_of s) 0) (shape_of_alone net w.name)
    ∙ counted (shape_of net w.name)
  where
    counted : (o : Option RawShape)
        → unwrap_or (option_map count_of (option_map shape_alone o)) 0
        ≡ unwrap_or (option_map count_of o) 0
    counted None = refl
    counted (Some s) = count_alone s

pub event_codes_alone : (net : RawNet) (w : Word)
    → event_codes (without_places net) (word_alone w) ≡ event_codes net w
event_codes_alone net w =
    ap (λ (o : Option Word). 1 + count_at (without_places net) o) (event_domain_alone net w.name)
    ∙ ap (λ (k : ℕ). 1 + k) (count_at_alone net (event_domain net w.name))

pub var_sizes_alone : (net : RawNet) (m : RawMachine)
    → var_sizes (without_places net) (machine_alone m) ≡ var_sizes net m
var_sizes_alone net m =
    ap (λ (l : List ℕ). l ++ map (state_codes (without_places net)) (map state_alone m.states))
    (map_alone (event_codes (without_places net)) (event_codes net) word_alone
    (event_codes_alone net) m.inputs)
    ∙ ap (λ (l : List ℕ). map (event_codes net) m.inputs ++ l)
    (map_alone (state_codes (without_places net)) (state_codes net) state_alone
    (λ s. count_at_alone net (Some s.domain)) m.states)

pub no_value_alone : (o p : Option RawShape) → o ≡ option_map shape_alone p → (v : RawValue)
    → empty (no_value o (value_alone v)) ≡ empty (no_value p v)
no_value_alone o p same v =
    unless_alone (is_value o (value_alone v)) (is_value p v) (place_of (value_alone v)) (place_of v)
    (ap (λ (s : Option RawShape). is_value s (value_alone v)) same ∙ is_value_alone p v)

pub cond_word_alone : (c : RawCond) → (cond_word (cond_alone c)).name ≡ (cond_word c).name
cond_word_alone (conds.Present w) = refl
cond_word_alone (conds.Absent w) = refl
cond_word_alone (conds.Is w v) = refl
cond_word_alone (conds.OneOf w vs) = refl
