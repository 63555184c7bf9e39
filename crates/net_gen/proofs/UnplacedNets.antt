-- Declarations give a network whatever the places are.
use Rattle.std.proofs.Common.{◌≡◌, ℕ, ◌+◌, ◌==◌, ◌||◌, Bool, cond, List, [], ◌∷◌, ◌++◌, map, length, Option, Some, None, refl, sym, ap, ◌∙◌}
use Rattle.std.specs.Prelude.{option_map, option_and_then, unwrap_or, slice_index}
use Rattle.std.specs.List.{list_any, AllZip}
use Rattle.std.proofs.lemmas.List.{length-map}
use Rattle.polis_base.specs.Lists.{places_from}
use Rattle.domains.specs.declared.domain.Domain.{Domain}
use Rattle.domains.specs.declared.domain.Domain.TheVariants as domains
use Rattle.transition_table.specs.declared.row.Source.TheVariants.{Code, Input}
use Rattle.transition_table.specs.declared.row.Row.{Row}
use Rattle.transition_table.specs.declared.machine.Machine.{Machine}
use Rattle.transition_table.specs.declared.network.Network.{Network}
use Rattle.net_reader.specs.declared.raw.Word.{Word}
use Rattle.net_reader.specs.declared.raw.RawValue.{RawValue}
use Rattle.net_reader.specs.declared.raw.RawShape.{RawShape}
use Rattle.net_reader.specs.declared.raw.RawShape.TheVariants as shapes
use Rattle.net_reader.specs.declared.raw.RawDomain.{RawDomain}
use Rattle.net_reader.specs.declared.raw.RawEvent.{RawEvent}
use Rattle.net_reader.specs.declared.raw.RawState.{RawState}
use Rattle.net_reader.specs.declared.raw.RawCond.{RawCond}
use Rattle.net_reader.specs.declared.raw.RawCond.TheVariants as conds
use Rattle.net_reader.specs.declared.raw.RawSource.{RawSource}
use Rattle.net_reader.specs.declared.raw.RawSource.TheVariants as sources
use Rattle.net_reader.specs.declared.raw.RawAct.{RawAct}
use Rattle.net_reader.specs.declared.raw.RawAct.TheVariants as acts
use Rattle.net_reader.specs.declared.raw.RawRow.{RawRow}
use Rattle.net_reader.specs.declared.raw.RawMachine.{RawMachine}
use Rattle.net_reader.specs.declared.raw.RawNet.{RawNet}
use Rattle.net_reader.specs.Places.{word_alone, value_alone, shape_alone, domain_alone, typed_alone, event_alone, state_alone, cond_alone, source_alone, given_alone, act_alone, row_alone, machine_alone, without_places}
use Rattle.net_names.specs.Numbers.{names_of, is_among, number_in, number}
use Rattle.net_names.specs.Values.{value_in}
use Rattle.net_names.specs.Scopes.{domain_words, event_words, state_words, is_to_env, shape_at, event_domain, state_domain, var_domain, event_codes, state_codes, cond_word, var_words}
use Rattle.net_rules.specs.Networks.{value_number, IsDomainOf, machines_with, party_of, event_of, state_of, first_code, value_code, allows, bits_where, cond_of, source_in, emission_source, act_of, IsRowOf, IsMachineOf, IsNetworkOf}
use Rattle.net_gen.proofs.WithoutPlaces.{names_alone, event_domain_alone, value_in_alone}
use Rattle.net_gen.proofs.UnplacedScopes.{map_alone, domain_words_alone, event_words_alone, state_words_alone, var_words_alone, state_domain_alone, var_domain_alone, shape_at_alone, count_at_alone, event_codes_alone, var_sizes_alone, cond_word_alone}
use Rattle.net_gen.proofs.UnplacedDeclarations.{names_are_alone}

-- ---- numbers of names and of values

number_alone : (ws vs : List Word) → ws ≡ map word_alone vs → (name : List ℕ)
    → number ws name ≡ number vs name
number_alone ws vs are name =
    ap (λ (l : List Word). number l name) are
    ∙ ap (λ (ns : List (List ℕ)). unwrap_or (number_in ns name) 0) (names_alone vs)

value_number_alone : (net : RawNet) (d : Option Word) (v : RawValue)
    → value_number (without_places net) (typed_alone d) (value_alone v) ≡ value_number net d v
value_number_alone net d v =
    ap (λ (s : Option RawShape).
    unwrap_or (option_and_then (λ (shape : RawShape). value_in shape (value_alone v)) s) 0)
    (shape_at_alone net d)
    ∙ by (shape_at net d)
  where
    by : (o : Option RawShape)
        → unwrap_or (option_and_then (λ (shape : RawShape). value_in shape (value_alone v))
        (option_map shape_alone o)) 0
        ≡ unwrap_or (option_and_then (λ (shape : RawShape). value_in shape v) o) 0
    by None = refl
    by (Some s) = ap (λ (o : Option ℕ). unwrap_or o 0) (value_in_alone s v)

-- ---- events and state variables

places_alone : {X Y : Type 0} (c : ℕ) (p : Y → Bool) (q : X → Bool) (h : X → Y)
    → ((x : X) → p (h x) ≡ q x) → (xs : List X)
    → places_from c p (map h xs) ≡ places_from c q xs
places_alone c p q h same [] = refl
places_alone c p q h same (x ∷ xs) =
    let rest : List ℕ = places_from (c + 1) p (map h xs) in
    ap (λ (b : Bool). cond b (c ∷ rest) rest) (same x)
    ∙ ap (λ (l : List ℕ). cond (q x) (c ∷ l) l) (places_alone (c + 1) p q h same xs)

machines_alone : (f : RawMachine → List Word)
    → ((m : RawMachine) → f (machine_alone m) ≡ map word_alone (f m))
    → (net : RawNet) (name : List ℕ)
    → machines_with f (without_places net) name ≡ machines_with f net name
machines_alone f same net name =
    places_alone 0 (λ (m : RawMachine). is_among (names_of (f m)) name)
    (λ (m : RawMachine). is_among (names_of (f m)) name) machine_alone
    (λ m. names_are_alone (f (machine_alone m)) (f m) (same m) name) net.machines

event_alone_of : (net : RawNet) (e : RawEvent)
    → event_of (without_places net) (event_alone e) ≡ event_of net e
event_alone_of net e =
    let n : RawNet = without_places net in
    let domain_of : (o : Option Word)
    → option_map (λ (w : Word). number (domain_words n) w.name) (typed_alone o)
    ≡ option_map (λ (w : Word). number (domain_words net) w.name) o = λ o.
    elim o as (λ o. option_map (λ (w : Word). number (domain_words n) w.name) (typed_alone o)
    ≡ option_map (λ (w : Word). number (domain_words net) w.name) o) [
      | None ↦ refl
      | Some w ↦ ap (λ (k : ℕ). Some k)
          (number_alone (domain_words n) (domain_words net) (domain_words_alone net) w.name)
    ] in
    let sender : machines_with (λ (m : RawMachine). m.outputs) n e.name.name
    ≡ machines_with (λ (m : RawMachine). m.outputs) net e.name.name =
    machines_alone (λ (m : RawMachine). m.outputs) (λ m. refl) net e.name.name in
    let readers : machines_with (λ (m : RawMachine). m.inputs) n e.name.name
    ≡ machines_with (λ (m : RawMachine). m.inputs) net e.name.name =
    machines_alone (λ (m : RawMachine). m.inputs) (λ m. refl) net e.name.name in
    λ i. record {
      name = e.name.name;
      domain = domain_of e.domain i;
      sender = party_of (sender i);
      to_env = is_to_env e.env;
      receivers = readers i;
    }

state_alone_of : (net : RawNet) (s : RawState)
    → state_of (without_places net) (state_alone s) ≡ state_of net s
state_alone_of net s =
    let domain : number (domain_words (without_places net)) s.domain.name
    ≡ number (domain_words net) s.domain.name =
    number_alone (domain_words (without_places net)) (domain_words net) (domain_words_alone net)
    s.domain.name in
    let init : value_number (without_places net) (Some (word_alone s.domain)) (value_alone s.init)
    ≡ value_number net (Some s.domain) s.init = value_number_alone net (Some s.domain) s.init in
    λ i. record { name = s.name.name; domain = domain i; init = init i }

-- ---- conditions and actions

first_code_alone : (m : RawMachine) (name : List ℕ)
    → first_code (machine_alone m) name ≡ first_code m name
first_code_alone m name =
    ap (λ (b : Bool). cond b 0 1)
    (names_are_alone (state_words (machine_alone m)) (state_words m) (state_words_alone m) name)

code_alone : (net : RawNet) (m : RawMachine) (name : List ℕ) (v : RawValue)
    → value_code (without_places net) (machine_alone m) name (value_alone v) ≡ value_code net m name v
code_alone net m name v =
    ap (λ (k : ℕ). k + value_number (without_places net)
    (var_domain (without_places net) (machine_alone m) name) (value_alone v))
    (first_code_alone m name)
    ∙ ap (λ (k : ℕ). first_code m name + k)
    (ap (λ (d : Option Word). value_number (without_places net) d (value_alone v))
    (var_domain_alone net m name)
    ∙ value_number_alone net (var_domain net m name) v)

any_alone : {X Y : Type 0} (p : Y → Bool) (q : X → Bool) (h : X → Y)
    → ((x : X) → p (h x) ≡ q x) → (xs : List X)
    → list_any p (map h xs) ≡ list_any q xs
any_alone p q h same [] = refl
any_alone p q h same (x ∷ xs) =
    ap (λ (b : Bool). b || list_any p (map h xs)) (same x)
    ∙ ap (λ (b : Bool). q x || b) (any_alone p q h same xs)

allows_alone : (net : RawNet) (m : RawMachine) (c : RawCond) (code : ℕ)
    → allows (without_places net) (machine_alone m) (cond_alone c) code ≡ allows net m c code
allows_alone net m (conds.Present w) code = refl
allows_alone net m (conds.Absent w) code = refl
allows_alone net m (conds.Is w value) code =
    ap (λ (k : ℕ). code == k) (code_alone net m w.name value)
allows_alone net m (conds.OneOf w values) code =
    any_alone
    (λ value. code == value_code (without_places net) (machine_alone m) w.name value)
    (λ value. code == value_code net m w.name value) value_alone
    (λ value. ap (λ (k : ℕ). code == k) (code_alone net m w.name value)) values

cond_alone_of : (net : RawNet) (m : RawMachine) (c : RawCond)
    → cond_of (without_places net) (machine_alone m) (cond_alone c) ≡ cond_of net m c
cond_alone_of net m c =
    let var : number (var_words (machine_alone m)) (cond_word (cond_alone c)).name
    ≡ number (var_words m) (cond_word c).name =
    ap (number (var_words (machine_alone m))) (cond_word_alone c)
    ∙ number_alone (var_words (machine_alone m)) (var_words m) (var_words_alone m)
    (cond_word c).name in
    λ i. record {
      var = var i;
      codes = bits_where (λ code. allows_alone net m c code i)
          (slice_index (var_sizes_alone net m i) (var i));
    }

source_alone_in : (net : RawNet) (m : RawMachine) (d : Option Word) (s : RawSource)
    → source_in (without_places net) (machine_alone m) (typed_alone d) (source_alone s)
    ≡ source_in net m d s
source_alone_in net m d (sources.Value value) =
    ap (λ (k : ℕ). Code (1 + k)) (value_number_alone net d value)
source_alone_in net m d (sources.Input w) =
    ap (λ (k : ℕ). Input k)
    (number_alone (var_words (machine_alone m)) (var_words m) (var_words_alone m) w.name)
source_alone_in net m d (sources.Add w n) = refl

emission_alone : (net : RawNet) (m : RawMachine) (d : Option Word) (s : Option RawSource)
    → emission_source (without_places net) (machine_alone m) (typed_alone d) (given_alone s)
    ≡ emission_source net m d s
emission_alone net m d None = refl
emission_alone net m d (Some s) = source_alone_in net m d s

act_alone_of : (net : RawNet) (m : RawMachine) (a : RawAct)
    → act_of (without_places net) (machine_alone m) (act_alone a) ≡ act_of net m a
act_alone_of net m (acts.Emit w s) =
    let states : length (map state_alone m.states) ≡ length m.states =
    length-map m.states state_alone in
    let out : number (map word_alone m.outputs) w.name ≡ number m.outputs w.name =
    number_alone (map word_alone m.outputs) m.outputs refl w.name in
    let from : emission_source (without_places net) (machine_alone m)
    (event_domain (without_places net) w.name) (given_alone s)
    ≡ emission_source net m (event_domain net w.name) s =
    ap (λ (d : Option Word).
    emission_source (without_places net) (machine_alone m) d (given_alone s))
    (event_domain_alone net w.name)
    ∙ emission_alone net m (event_domain net w.name) s in
    λ i. record { result = 1 + states i + out i; source = from i }
act_alone_of net m (acts.Set w s) =
    let var : number (state_words (machine_alone m)) w.name ≡ number (state_words m) w.name =
    number_alone (state_words (machine_alone m)) (state_words m) (state_words_alone m) w.name in
    let from : source_in (without_places net) (machine_alone m)
    (state_domain (machine_alone m) w.name) (source_alone s)
    ≡ source_in net m (state_domain m w.name) s =
    ap (λ (d : Option Word). source_in (without_places net) (machine_alone m) d (source_alone s))
    (state_domain_alone m w.name)
    ∙ source_alone_in net m (state_domain m w.name) s in
    λ i. record { result = 1 + var i; source = from i }

-- ---- lists that match, with places and without

zip_to : {X Y : Type 0} (R S : X → Y → Type 0) (h : X → X)
    → ((x : X) (y : Y) → R x y → S (h x) y) → (xs : List X) (ys : List Y)
    → AllZip R xs ys → AllZip S (map h xs) ys
zip_to R S h one [] [] all = tt
zip_to R S h one [] (y ∷ ys) all = absurd all
zip_to R S h one (x ∷ xs) [] all = absurd all
zip_to R S h one (x ∷ xs) (y ∷ ys) all = (one x y all.0, zip_to R S h one xs ys all.1)

zip_back : {X Y : Type 0} (R S : X → Y → Type 0) (h : X → X)
    → ((x : X) (y : Y) → S (h x) y → R x y) → (xs : List X) (ys : List Y)
    → AllZip S (map h xs) ys → AllZip R xs ys
zip_back R S h one [] [] all = tt
zip_back R S h one [] (y ∷ ys) all = absurd all
zip_back R S h one (x ∷ xs) [] all = absurd all
zip_back R S h one (x ∷ xs) (y ∷ ys) all = (one x y all.0, zip_back R S h one xs ys all.1)

row_to : (net : RawNet) (m : RawMachine) (raw : RawRow) (row : Row) → IsRowOf net m raw row
    → IsRowOf (without_places net) (machine_alone m) (row_alone raw) row
row_to net m raw row is = record {
  conds =
      is.conds
      ∙ sym (map_alone (cond_of (without_places net) (machine_alone m)) (cond_of net m) cond_alone
      (cond_alone_of net m) raw.conds);
  acts =
      is.acts
      ∙ sym (map_alone (act_of (without_places net) (machine_alone m)) (act_of net m) act_alone
      (act_alone_of net m) raw.acts);
}

row_back : (net : RawNet) (m : RawMachine) (raw : RawRow) (row : Row)
    → IsRowOf (without_places net) (machine_alone m) (row_alone raw) row → IsRowOf net m raw row
row_back net m raw row is = record {
  conds =
      is.conds
      ∙ map_alone (cond_of (without_places net) (machine_alone m)) (cond_of net m) cond_alone
      (cond_alone_of net m) raw.conds;
  acts =
      is.acts
      ∙ map_alone (act_of (without_places net) (machine_alone m)) (act_of net m) act_alone
      (act_alone_of net m) raw.acts;
}

-- ---- machines

abbrev event_numbers : RawNet → List Word → List ℕ
event_numbers net ws = map (λ (w : Word). number (event_words net) w.name) ws

event_numbers_alone : (net : RawNet) (ws : List Word)
    → event_numbers (without_places net) (map word_alone ws) ≡ event_numbers net ws
event_numbers_alone net ws =
    map_alone (λ (w : Word). number (event_words (without_places net)) w.name)
    (λ (w : Word). number (event_words net) w.name) word_alone
    (λ w. number_alone (event_words (without_places net)) (event_words net) (event_words_alone net)
    w.name) ws

states_alone : (net : RawNet) (ss : List RawState)
    → map (state_of (without_places net)) (map state_alone ss) ≡ map (state_of net) ss
states_alone net ss =
    map_alone (state_of (without_places net)) (state_of net) state_alone (state_alone_of net) ss

abbrev result_sizes : RawNet → RawMachine → List ℕ
result_sizes net m =
    2 ∷ map (λ (s : RawState). 1 + state_codes net s) m.states ++ map (event_codes net) m.outputs

result_sizes_alone : (net : RawNet) (m : RawMachine)
    → result_sizes (without_places net) (machine_alone m) ≡ result_sizes net m
result_sizes_alone net m =
    let states : map (λ (s : RawState). 1 + state_codes (without_places net) s)
    (map state_alone m.states) ≡ map (λ (s : RawState). 1 + state_codes net s) m.states =
    map_alone (λ (s : RawState). 1 + state_codes (without_places net) s)
    (λ (s : RawState). 1 + state_codes net s) state_alone
    (λ s. ap (λ (k : ℕ). 1 + k) (count_at_alone net (Some s.domain))) m.states in
    let outs : map (event_codes (without_places net)) (map word_alone m.outputs)
    ≡ map (event_codes net) m.outputs =
    map_alone (event_codes (without_places net)) (event_codes net) word_alone
    (event_codes_alone net) m.outputs in
    λ i. 2 ∷ states i ++ outs i

machine_to : (net : RawNet) (raw : RawMachine) (m : Machine) → IsMachineOf net raw m
    → IsMachineOf (without_places net) (machine_alone raw) m
machine_to net raw m is = record {
  name = is.name;
  priority = is.priority;
  inputs = is.inputs ∙ sym (event_numbers_alone net raw.inputs);
  outputs = is.outputs ∙ sym (event_numbers_alone net raw.outputs);
  states = is.states ∙ sym (states_alone net raw.states);
  vars = is.vars ∙ sym (var_sizes_alone net raw);
  results = is.results ∙ sym (result_sizes_alone net raw);
  rows = zip_to (IsRowOf net raw) (IsRowOf (without_places net) (machine_alone raw)) row_alone
      (row_to net raw) raw.rows m.rows is.rows;
}

machine_back : (net : RawNet) (raw : RawMachine) (m : Machine)
    → IsMachineOf (without_places net) (machine_alone raw) m → IsMachineOf net raw m
machine_back net raw m is = record {
  name = is.name;
  priority = is.priority;
  inputs = is.inputs ∙ event_numbers_alone net raw.inputs;
  outputs = is.outputs ∙ event_numbers_alone net raw.outputs;
  states = is.states ∙ states_alone net raw.states;
  vars = is.vars ∙ var_sizes_alone net raw;
  results = is.results ∙ result_sizes_alone net raw;
  rows = zip_back (IsRowOf net raw) (IsRowOf (without_places net) (machine_alone raw)) row_alone
      (row_back net raw) raw.rows m.rows is.rows;
}

-- ---- domains, and all together

domain_to : (s : RawShape) (d : Domain) → IsDomainOf s d → IsDomainOf (shape_alone s) d
domain_to (shapes.Names words) d is =
    is ∙ sym (ap (λ (ns : List (List ℕ)). domains.Names ns) (names_alone words))
domain_to (shapes.Range first last) d is = is

domain_back : (s : RawShape) (d : Domain) → IsDomainOf (shape_alone s) d → IsDomainOf s d
domain_back (shapes.Names words) d is =
    is ∙ ap (λ (ns : List (List ℕ)). domains.Names ns) (names_alone words)
domain_back (shapes.Range first last) d is = is

pub network_alone : (raw : RawNet) (net : Network) → IsNetworkOf raw net
    → IsNetworkOf (without_places raw) net
network_alone raw net is = record {
  name = is.name;
  domains = zip_to (λ (d : RawDomain). IsDomainOf d.shape) (λ (d : RawDomain). IsDomainOf d.shape)
      domain_alone (λ d made. domain_to d.shape made) raw.domains net.domains is.domains;
  events =
      is.events
      ∙ sym (map_alone (event_of (without_places raw)) (event_of raw) event_alone
      (event_alone_of raw) raw.events);
  machines = zip_to (IsMachineOf raw) (IsMachineOf (without_places raw)) machine_alone
      (machine_to raw) raw.machines net.machines is.machines;
}

pub alone_network : (raw : RawNet) (net : Network) → IsNetworkOf (without_places raw) net
    → IsNetworkOf raw net
alone_network raw net is = record {
  name = is.name;
  domains = zip_back (λ (d : RawDomain). IsDomainOf d.shape)
      (λ (d : RawDomain). IsDomainOf d.shape) domain_alone
      (λ d made. domain_back d.shape made) raw.domains net.domains is.domains;
  events =
      is.events
      ∙ map_alone (event_of (without_places raw)) (event_of raw) event_alone (event_alone_of raw)
      raw.events;
  machines = zip_back (IsMachineOf raw) (IsMachineOf (without_places raw)) machine_alone
      (machine_back raw) raw.machines net.machines is.machines;
}
