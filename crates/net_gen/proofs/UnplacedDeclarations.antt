-- Each rule on declarations is broken somewhere or nowhere, whatever the places are: the rules on
-- lists of names, on domains and on what machines declare.
use Rattle.std.proofs.Common.{◌≡◌, ℕ, zero, suc, not, Bool, List, [], ◌∷◌, ◌++◌, map, flat_map, refl, ap, ◌∙◌}
use Rattle.std.specs.Prelude.{nat_le}
use Rattle.std.proofs.lemmas.List.{length-map}
use Rattle.net_reader.specs.declared.raw.Word.{Word}
use Rattle.net_reader.specs.declared.raw.RawShape.{RawShape}
use Rattle.net_reader.specs.declared.raw.RawShape.TheVariants as shapes
use Rattle.net_reader.specs.declared.raw.RawDomain.{RawDomain}
use Rattle.net_reader.specs.declared.raw.RawEnv.{RawEnv}
use Rattle.net_reader.specs.declared.raw.RawState.{RawState}
use Rattle.net_reader.specs.declared.raw.RawMachine.{RawMachine}
use Rattle.net_reader.specs.declared.raw.RawNet.{RawNet}
use Rattle.net_reader.specs.Places.{word_alone, shape_alone, domain_alone, state_alone, row_alone, machine_alone, without_places}
use Rattle.net_names.specs.Places.{unless}
use Rattle.net_names.specs.Numbers.{is_name_of, no_name, missing, repeated}
use Rattle.net_names.specs.Scopes.{domain_words, event_words, machine_words, state_words, is_from_env, is_to_env, all_outputs, all_inputs, shape_of}
use Rattle.net_names.specs.Values.{count_of, no_value}
use Rattle.rule_judge.specs.Rules.{beyond, disorder, used_domains, is_small, events_where, rule_1, rule_2, rule_3, rule_4, rule_5, rule_6, rule_7, rule_8, rule_9, rule_10, rule_11, rule_12, rule_13, rule_14}
use Rattle.net_gen.proofs.WithoutPlaces.{empty, append_alone, unless_alone, flat_alone, missing_alone, repeated_alone, shape_of_alone, count_alone}
use Rattle.net_gen.proofs.UnplacedScopes.{is_name_alone, domain_words_alone, event_words_alone, machine_words_alone, state_words_alone, all_outputs_alone, all_inputs_alone, ports_alone, used_domains_alone, events_where_alone, no_value_alone}

-- the rule is broken by both or by neither
abbrev pub Alone : (RawNet → List ℕ) → Type 0
Alone rule = (net : RawNet) → empty (rule (without_places net)) ≡ empty (rule net)

pub alone_1 : Alone rule_1
alone_1 net = unless_alone _ _ _ _ refl

beyond_alone : (most : ℕ) (ws : List Word)
    → empty (beyond most (map word_alone ws)) ≡ empty (beyond most ws)
beyond_alone most [] = refl
beyond_alone zero (w ∷ ws) = refl
beyond_alone (suc most) (w ∷ ws) = beyond_alone most ws

few_alone : (most : ℕ) (ws vs : List Word) → ws ≡ map word_alone vs
    → empty (beyond most ws) ≡ empty (beyond most vs)
few_alone most ws vs same =
    ap (λ (l : List Word). empty (beyond most l)) same ∙ beyond_alone most vs

pub alone_2 : Alone rule_2
alone_2 net =
    let n : RawNet = without_places net in
    append_alone (beyond 64 (domain_words n) ++ beyond 256 (event_words n))
    (beyond 64 (machine_words n)) (beyond 64 (domain_words net) ++ beyond 256 (event_words net))
    (beyond 64 (machine_words net))
    (append_alone (beyond 64 (domain_words n)) (beyond 256 (event_words n))
    (beyond 64 (domain_words net)) (beyond 256 (event_words net))
    (few_alone 64 (domain_words n) (domain_words net) (domain_words_alone net))
    (few_alone 256 (event_words n) (event_words net) (event_words_alone net)))
    (few_alone 64 (machine_words n) (machine_words net) (machine_words_alone net))

-- names that repeat, and names that lack
pub repeats_alone : (p q : List ℕ → Bool) → ((name : List ℕ) → p name ≡ q name)
    → (ws vs : List Word)
    → ws ≡ map word_alone vs
    → empty (repeated p ws) ≡ empty (repeated q vs)
repeats_alone p q same ws vs are =
    ap (λ (l : List Word). empty (repeated p l)) are ∙ repeated_alone p q same vs

pub lacks_alone : (p q : List ℕ → Bool) → ((name : List ℕ) → p name ≡ q name)
    → (ws vs : List Word)
    → ws ≡ map word_alone vs
    → empty (missing p ws) ≡ empty (missing q vs)
lacks_alone p q same ws vs are =
    ap (λ (l : List Word). empty (missing p l)) are ∙ missing_alone p q same vs

pub names_are_alone : (ws vs : List Word) → ws ≡ map word_alone vs → (name : List ℕ)
    → is_name_of ws name ≡ is_name_of vs name
names_are_alone ws vs are name =
    ap (λ (l : List Word). is_name_of l name) are ∙ is_name_alone vs name

pub once_alone : (ws vs : List Word) → ws ≡ map word_alone vs
    → empty (repeated no_name ws) ≡ empty (repeated no_name vs)
once_alone = repeats_alone no_name no_name (λ name. refl)

pub alone_3 : Alone rule_3
alone_3 net =
    let n : RawNet = without_places net in
    let p : (RawNet → List Word) → RawNet → List ℕ = λ f r. repeated no_name (f r) in
    append_alone (p domain_words n ++ p event_words n) (p machine_words n)
    (p domain_words net ++ p event_words net) (p machine_words net)
    (append_alone (p domain_words n) (p event_words n) (p domain_words net) (p event_words net)
    (once_alone (domain_words n) (domain_words net) (domain_words_alone net))
    (once_alone (event_words n) (event_words net) (event_words_alone net)))
    (once_alone (machine_words n) (machine_words net) (machine_words_alone net))

disorder_alone : (s : RawShape) → empty (disorder (shape_alone s)) ≡ empty (disorder s)
disorder_alone (shapes.Names words) = once_alone (map word_alone words) words refl
disorder_alone (shapes.Range first last) = unless_alone _ _ _ _ refl

pub alone_4 : Alone rule_4
alone_4 net =
    let rule : RawDomain → List ℕ = λ d. disorder d.shape in
    flat_alone rule rule domain_alone (λ d. disorder_alone d.shape) net.domains

pub alone_5 : Alone rule_5
alone_5 net =
    let rule : RawDomain → List ℕ = λ d. unless (nat_le (count_of d.shape) 32) d.name.at in
    flat_alone rule rule domain_alone
    (λ d. unless_alone (nat_le (count_of (shape_alone d.shape)) 32) (nat_le (count_of d.shape) 32) 0
    d.name.at (ap (λ (k : ℕ). nat_le k 32) (count_alone d.shape))) net.domains

pub alone_6 : Alone rule_6
alone_6 net =
    let n : RawNet = without_places net in
    lacks_alone (is_name_of (domain_words n)) (is_name_of (domain_words net))
    (names_are_alone (domain_words n) (domain_words net) (domain_words_alone net))
    (used_domains n) (used_domains net) (used_domains_alone net)

-- what a rule says of each machine
pub each_alone : (f g : RawMachine → List ℕ)
    → ((m : RawMachine) → empty (f (machine_alone m)) ≡ empty (g m))
    → (net : RawNet)
    → empty (flat_map f (without_places net).machines) ≡ empty (flat_map g net.machines)
each_alone f g alike net = flat_alone g f machine_alone alike net.machines

pub alone_7 : Alone rule_7
alone_7 net =
    let n : RawNet = without_places net in
    each_alone (λ (m : RawMachine). missing (is_name_of (event_words n)) (m.inputs ++ m.outputs))
    (λ (m : RawMachine). missing (is_name_of (event_words net)) (m.inputs ++ m.outputs))
    (λ m. lacks_alone (is_name_of (event_words n)) (is_name_of (event_words net))
    (names_are_alone (event_words n) (event_words net) (event_words_alone net))
    (map word_alone m.inputs ++ map word_alone m.outputs) (m.inputs ++ m.outputs)
    (ports_alone m)) net

pub alone_8 : Alone rule_8
alone_8 net =
    let ins : RawMachine → List ℕ = λ m. repeated no_name m.inputs in
    let outs : RawMachine → List ℕ = λ m. repeated no_name m.outputs in
    let vars : RawMachine → List ℕ = λ m.
    repeated (is_name_of (m.inputs ++ m.outputs)) (state_words m) in
    let rule : RawMachine → List ℕ = λ m. ins m ++ outs m ++ vars m in
    each_alone rule rule (λ m.
    let k : RawMachine = machine_alone m in
    append_alone (ins k ++ outs k) (vars k) (ins m ++ outs m) (vars m)
    (append_alone (ins k) (outs k) (ins m) (outs m)
    (once_alone (map word_alone m.inputs) m.inputs refl)
    (once_alone (map word_alone m.outputs) m.outputs refl))
    (repeats_alone (is_name_of (k.inputs ++ k.outputs)) (is_name_of (m.inputs ++ m.outputs))
    (names_are_alone (k.inputs ++ k.outputs) (m.inputs ++ m.outputs) (ports_alone m))
    (state_words k) (state_words m) (state_words_alone m))) net

small_alone : (m : RawMachine) → is_small (machine_alone m) ≡ is_small m
small_alone m =
    rw (
      length-map m.inputs word_alone,
      length-map m.outputs word_alone,
      length-map m.states state_alone,
      length-map m.rows row_alone,
    ) refl

pub alone_9 : Alone rule_9
alone_9 net =
    let rule : RawMachine → List ℕ = λ m. unless (is_small m) m.name.at in
    each_alone rule rule
    (λ m. unless_alone (is_small (machine_alone m)) (is_small m) 0 m.name.at (small_alone m)) net

pub alone_10 : Alone rule_10
alone_10 net =
    let rule : RawMachine → List ℕ = λ m. unless (nat_le m.priority.number 255) m.priority.at in
    each_alone rule rule (λ m. unless_alone _ _ _ _ refl) net

-- the names of events on a side
sided_alone : (test : RawEnv → Bool) (net : RawNet) (name : List ℕ)
    → is_name_of (events_where test (without_places net)) name
    ≡ is_name_of (events_where test net) name
sided_alone test net =
    names_are_alone (events_where test (without_places net)) (events_where test net)
    (events_where_alone test net)

pub alone_11 : Alone rule_11
alone_11 net =
    let n : RawNet = without_places net in
    let test : RawEnv → Bool = λ env. is_from_env env in
    repeats_alone (is_name_of (events_where test n)) (is_name_of (events_where test net))
    (sided_alone test net) (all_outputs n) (all_outputs net) (all_outputs_alone net)

pub alone_12 : Alone rule_12
alone_12 net =
    let n : RawNet = without_places net in
    let test : RawEnv → Bool = λ env. not (is_from_env env) in
    lacks_alone (is_name_of (all_outputs n)) (is_name_of (all_outputs net))
    (names_are_alone (all_outputs n) (all_outputs net) (all_outputs_alone net))
    (events_where test n) (events_where test net) (events_where_alone test net)

pub alone_13 : Alone rule_13
alone_13 net =
    let n : RawNet = without_places net in
    let test : RawEnv → Bool = λ env. not (is_to_env env) in
    lacks_alone (is_name_of (all_inputs n)) (is_name_of (all_inputs net))
    (names_are_alone (all_inputs n) (all_inputs net) (all_inputs_alone net))
    (events_where test n) (events_where test net) (events_where_alone test net)

pub alone_14 : Alone rule_14
alone_14 net =
    let n : RawNet = without_places net in
    let init : RawNet → RawState → List ℕ = λ r s. no_value (shape_of r s.domain.name) s.init in
    each_alone (λ (m : RawMachine). flat_map (init n) m.states)
    (λ (m : RawMachine). flat_map (init net) m.states)
    (λ m. flat_alone (init net) (init n) state_alone
    (λ s. no_value_alone (shape_of n s.domain.name) (shape_of net s.domain.name)
    (shape_of_alone net s.domain.name) s.init) m.states) net
