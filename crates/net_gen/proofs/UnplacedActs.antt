-- Each rule on declarations is broken somewhere or nowhere, whatever the places are: the rules on
-- conditions and on actions, and all rules together.
use Rattle.std.proofs.Common.{◌≡◌, ℕ, ◌&&◌, ◌||◌, Bool, true, false, List, [], ◌∷◌, ◌++◌, map, flat_map, Option, Some, None, refl, sym, ap, ◌∙◌}
use Rattle.std.specs.Prelude.{nat_le, nat_lt, is_some, option_map}
use Rattle.std.specs.List.{list_any}
use Rattle.std.proofs.lemmas.Bool.{true≢false}
use Rattle.std.proofs.lemmas.Option.{none-some}
use Rattle.domains.specs.Names.{is_same}
use Rattle.domains.specs.Tables.{product}
use Rattle.net_reader.specs.declared.raw.Word.{Word}
use Rattle.net_reader.specs.declared.raw.RawShape.{RawShape}
use Rattle.net_reader.specs.declared.raw.RawCond.{RawCond}
use Rattle.net_reader.specs.declared.raw.RawCond.TheVariants as conds
use Rattle.net_reader.specs.declared.raw.RawSource.{RawSource}
use Rattle.net_reader.specs.declared.raw.RawSource.TheVariants as sources
use Rattle.net_reader.specs.declared.raw.RawAct.{RawAct}
use Rattle.net_reader.specs.declared.raw.RawAct.TheVariants as acts
use Rattle.net_reader.specs.declared.raw.RawRow.{RawRow}
use Rattle.net_reader.specs.declared.raw.RawMachine.{RawMachine}
use Rattle.net_reader.specs.declared.raw.RawNet.{RawNet}
use Rattle.net_reader.specs.Places.{word_alone, value_alone, shape_alone, typed_alone, cond_alone, source_alone, given_alone, act_alone, row_alone, machine_alone, without_places}
use Rattle.net_names.specs.Places.{unless, sooner, least_place}
use Rattle.net_names.specs.Numbers.{is_name_of, no_name, missing, repeated}
use Rattle.net_names.specs.Scopes.{state_words, shape_of, event_domain, state_domain, var_domain, shape_at, count_at, cond_word, var_sizes, var_words}
use Rattle.net_names.specs.Values.{no_value}
use Rattle.rule_judge.specs.declared.verdict.Broken.{Broken}
use Rattle.rule_judge.specs.Judged.{Rule, broken_at, first_broken, rules, broken}
use Rattle.rule_judge.specs.Rules.{in_conds, unknown, suits, unsuited, wrong_values, emitted, set_names, not_once, wrong_value, wrong_emission, wrong_act, in_acts, source_of, target_domain, wrong_input, is_valued, no_input, shows, not_shown, same_domain, other_domain, wrong_sum, other_name, not_below, too_much, rule_15, rule_16, rule_17, rule_18, rule_19, rule_20, rule_21, rule_22, rule_23, rule_24, rule_25}
use Rattle.net_gen.proofs.WithoutPlaces.{empty, append_alone, unless_alone, flat_alone, shape_of_alone, event_domain_alone}
use Rattle.net_gen.proofs.UnplacedScopes.{flat_words, is_name_alone, state_words_alone, var_words_alone, state_domain_alone, var_domain_alone, is_typed_alone, shape_at_alone, count_at_alone, var_sizes_alone, no_value_alone, cond_word_alone}
use Rattle.net_gen.proofs.UnplacedDeclarations.{Alone, lacks_alone, names_are_alone, once_alone, each_alone, alone_1, alone_2, alone_3, alone_4, alone_5, alone_6, alone_7, alone_8, alone_9, alone_10, alone_11, alone_12, alone_13, alone_14}

-- ---- conditions

in_conds_alone : (f g : RawMachine → RawCond → List ℕ)
    → ((m : RawMachine) (c : RawCond) → empty (f (machine_alone m) (cond_alone c)) ≡ empty (g m c))
    → (net : RawNet)
    → empty (in_conds f (without_places net)) ≡ empty (in_conds g net)
in_conds_alone f g alike net =
    each_alone (λ (m : RawMachine). flat_map (λ (row : RawRow). flat_map (f m) row.conds) m.rows)
    (λ (m : RawMachine). flat_map (λ (row : RawRow). flat_map (g m) row.conds) m.rows)
    (λ m. flat_alone (λ (row : RawRow). flat_map (g m) row.conds)
    (λ (row : RawRow). flat_map (f (machine_alone m)) row.conds) row_alone
    (λ row. flat_alone (g m) (f (machine_alone m)) cond_alone (alike m) row.conds) m.rows) net

pub alone_15 : Alone rule_15
alone_15 net =
    in_conds_alone unknown unknown (λ m c.
    unless_alone (is_name_of (var_words (machine_alone m)) (cond_word (cond_alone c)).name)
    (is_name_of (var_words m) (cond_word c).name) (cond_word (cond_alone c)).at (cond_word c).at
    (ap (is_name_of (var_words (machine_alone m))) (cond_word_alone c)
    ∙ names_are_alone (var_words (machine_alone m)) (var_words m) (var_words_alone m)
    (cond_word c).name)) net

suits_alone : (net : RawNet) (m : RawMachine) (c : RawCond)
    → suits (without_places net) (machine_alone m) (cond_alone c) ≡ suits net m c
suits_alone net m (conds.Present w) = is_name_alone m.inputs w.name
suits_alone net m (conds.Absent w) = is_name_alone m.inputs w.name
suits_alone net m (conds.Is w value) =
    ap (λ (o : Option Word). is_some o) (var_domain_alone net m w.name)
    ∙ is_typed_alone (var_domain net m w.name)
suits_alone net m (conds.OneOf w values) =
    ap (λ (o : Option Word). is_some o) (var_domain_alone net m w.name)
    ∙ is_typed_alone (var_domain net m w.name)

pub alone_16 : Alone rule_16
alone_16 net =
    let n : RawNet = without_places net in
    in_conds_alone (unsuited n) (unsuited net) (λ m c.
    unless_alone (suits n (machine_alone m) (cond_alone c)) (suits net m c)
    (cond_word (cond_alone c)).at (cond_word c).at (suits_alone net m c)) net

-- the values of what is looked up
var_shape_alone : (net : RawNet) (m : RawMachine) (name : List ℕ)
    → shape_at (without_places net) (var_domain (without_places net) (machine_alone m) name)
    ≡ option_map shape_alone (shape_at net (var_domain net m name))
var_shape_alone net m name =
    ap (shape_at (without_places net)) (var_domain_alone net m name)
    ∙ shape_at_alone net (var_domain net m name)

values_alone : (net : RawNet) (m : RawMachine) (c : RawCond)
    → empty (wrong_values (without_places net) (machine_alone m) (cond_alone c))
    ≡ empty (wrong_values net m c)
values_alone net m (conds.Present w) = refl
values_alone net m (conds.Absent w) = refl
values_alone net m (conds.Is w value) =
    no_value_alone
    (shape_at (without_places net) (var_domain (without_places net) (machine_alone m) w.name))
    (shape_at net (var_domain net m w.name)) (var_shape_alone net m w.name) value
values_alone net m (conds.OneOf w values) =
    let o : Option RawShape =
    shape_at (without_places net) (var_domain (without_places net) (machine_alone m) w.name) in
    let p : Option RawShape = shape_at net (var_domain net m w.name) in
    flat_alone (no_value p) (no_value o) value_alone
    (no_value_alone o p (var_shape_alone net m w.name)) values

pub alone_17 : Alone rule_17
alone_17 net =
    in_conds_alone (wrong_values (without_places net)) (wrong_values net) (values_alone net) net

-- ---- actions

not_once_alone : (declared known words own : List Word) → declared ≡ map word_alone known
    → words ≡ map word_alone own
    → empty (not_once declared words) ≡ empty (not_once known own)
not_once_alone declared known words own are same =
    append_alone (missing (is_name_of declared) words) (repeated no_name words)
    (missing (is_name_of known) own) (repeated no_name own)
    (lacks_alone (is_name_of declared) (is_name_of known) (names_are_alone declared known are) words
    own same)
    (once_alone words own same)

emitted_alone : (a : RawAct) → emitted (act_alone a) ≡ map word_alone (emitted a)
emitted_alone (acts.Emit w value) = refl
emitted_alone (acts.Set w value) = refl

set_names_alone : (a : RawAct) → set_names (act_alone a) ≡ map word_alone (set_names a)
set_names_alone (acts.Emit w value) = refl
set_names_alone (acts.Set w value) = refl

pub alone_18 : Alone rule_18
alone_18 net =
    let outs : RawMachine → RawRow → List ℕ = λ m row.
    not_once m.outputs (flat_map emitted row.acts) in
    let sets : RawMachine → RawRow → List ℕ = λ m row.
    not_once (state_words m) (flat_map set_names row.acts) in
    let rule : RawMachine → List ℕ = λ m.
    flat_map (λ (row : RawRow). outs m row ++ sets m row) m.rows in
    each_alone rule rule (λ m.
    let k : RawMachine = machine_alone m in
    flat_alone (λ (row : RawRow). outs m row ++ sets m row)
    (λ (row : RawRow). outs k row ++ sets k row) row_alone
    (λ row.
    append_alone (outs k (row_alone row)) (sets k (row_alone row)) (outs m row) (sets m row)
    (not_once_alone k.outputs m.outputs (flat_map emitted (map act_alone row.acts))
    (flat_map emitted row.acts) refl (flat_words emitted act_alone emitted_alone row.acts))
    (not_once_alone (state_words k) (state_words m) (flat_map set_names (map act_alone row.acts))
    (flat_map set_names row.acts) (state_words_alone m)
    (flat_words set_names act_alone set_names_alone row.acts))) m.rows) net

in_acts_alone : (f g : RawMachine → RawRow → RawAct → List ℕ)
    → ((m : RawMachine) (row : RawRow) (a : RawAct)
    → empty (f (machine_alone m) (row_alone row) (act_alone a)) ≡ empty (g m row a))
    → (net : RawNet)
    → empty (in_acts f (without_places net)) ≡ empty (in_acts g net)
in_acts_alone f g alike net =
    each_alone (λ (m : RawMachine). flat_map (λ (row : RawRow). flat_map (f m row) row.acts) m.rows)
    (λ (m : RawMachine). flat_map (λ (row : RawRow). flat_map (g m row) row.acts) m.rows)
    (λ m. flat_alone (λ (row : RawRow). flat_map (g m row) row.acts)
    (λ (row : RawRow). flat_map (f (machine_alone m) row) row.acts) row_alone
    (λ row. flat_alone (g m row) (f (machine_alone m) (row_alone row)) act_alone (alike m row)
    row.acts) m.rows) net

wrong_value_alone : (o p : Option RawShape) → o ≡ option_map shape_alone p → (s : RawSource)
    → empty (wrong_value o (source_alone s)) ≡ empty (wrong_value p s)
wrong_value_alone o p same (sources.Value value) = no_value_alone o p same value
wrong_value_alone o p same (sources.Input w) = refl
wrong_value_alone o p same (sources.Add w number) = refl

wrong_emission_alone : (net : RawNet) (w : Word) (d : Option Word) (s : Option RawSource)
    → empty (wrong_emission (without_places net) (word_alone w) (typed_alone d) (given_alone s))
    ≡ empty (wrong_emission net w d s)
wrong_emission_alone net w None None = refl
wrong_emission_alone net w None (Some source) = refl
wrong_emission_alone net w (Some d) None = refl
wrong_emission_alone net w (Some d) (Some source) =
    wrong_value_alone (shape_of (without_places net) d.name) (shape_of net d.name)
    (shape_of_alone net d.name) source

wrong_act_alone : (net : RawNet) (m : RawMachine) (row : RawRow) (a : RawAct)
    → empty (wrong_act (without_places net) (machine_alone m) (row_alone row) (act_alone a))
    ≡ empty (wrong_act net m row a)
wrong_act_alone net m row (acts.Emit w source) =
    ap (λ (d : Option Word). empty (wrong_emission (without_places net) (word_alone w) d
    (given_alone source))) (event_domain_alone net w.name)
    ∙ wrong_emission_alone net w (event_domain net w.name) source
wrong_act_alone net m row (acts.Set w source) =
    wrong_value_alone (shape_at (without_places net) (state_domain (machine_alone m) w.name))
    (shape_at net (state_domain m w.name))
    (ap (shape_at (without_places net)) (state_domain_alone m w.name)
    ∙ shape_at_alone net (state_domain m w.name)) source

pub alone_19 : Alone rule_19
alone_19 net =
    in_acts_alone (wrong_act (without_places net)) (wrong_act net) (wrong_act_alone net) net

pub alone_20 : Alone rule_20
alone_20 net =
    let n : RawNet = without_places net in
    each_alone
    (λ (m : RawMachine). unless (nat_le (product (var_sizes n m)) 65536) m.name.at)
    (λ (m : RawMachine). unless (nat_le (product (var_sizes net m)) 65536) m.name.at)
    (λ m. unless_alone (nat_le (product (var_sizes n (machine_alone m))) 65536)
    (nat_le (product (var_sizes net m)) 65536) 0 m.name.at
    (ap (λ (sizes : List ℕ). nat_le (product sizes) 65536) (var_sizes_alone net m))) net

-- ---- where actions take values from

source_of_alone : (a : RawAct) → source_of (act_alone a) ≡ given_alone (source_of a)
source_of_alone (acts.Emit w source) = refl
source_of_alone (acts.Set w source) = refl

wrong_input_alone : (p q : List ℕ → Bool) → ((name : List ℕ) → p name ≡ q name)
    → (o : Option RawSource)
    → empty (wrong_input p (given_alone o)) ≡ empty (wrong_input q o)
wrong_input_alone p q same None = refl
wrong_input_alone p q same (Some (sources.Value value)) = refl
wrong_input_alone p q same (Some (sources.Input w)) =
    unless_alone (p w.name) (q w.name) 0 w.at (same w.name)
wrong_input_alone p q same (Some (sources.Add w number)) = refl

wrong_source_alone : (p q : List ℕ → Bool) → ((name : List ℕ) → p name ≡ q name) → (a : RawAct)
    → empty (wrong_input p (source_of (act_alone a))) ≡ empty (wrong_input q (source_of a))
wrong_source_alone p q same a =
    ap (λ (o : Option RawSource). empty (wrong_input p o)) (source_of_alone a)
    ∙ wrong_input_alone p q same (source_of a)

pub alone_21 : Alone rule_21
alone_21 net =
    let n : RawNet = without_places net in
    in_acts_alone (no_input n) (no_input net) (λ m row a.
    wrong_source_alone (is_valued n (machine_alone m)) (is_valued net m) (λ name.
    ap (λ (b : Bool). b && is_some (event_domain n name)) (is_name_alone m.inputs name)
    ∙ ap (λ (b : Bool). is_name_of m.inputs name && b)
    (ap (λ (o : Option Word). is_some o) (event_domain_alone net name)
    ∙ is_typed_alone (event_domain net name))) a) net

shows_alone : (name : List ℕ) (c : RawCond) → shows name (cond_alone c) ≡ shows name c
shows_alone name (conds.Present w) = refl
shows_alone name (conds.Absent w) = refl
shows_alone name (conds.Is w value) = refl
shows_alone name (conds.OneOf w values) = refl

any_shows_alone : (name : List ℕ) (cs : List RawCond)
    → list_any (shows name) (map cond_alone cs) ≡ list_any (shows name) cs
any_shows_alone name [] = refl
any_shows_alone name (c ∷ cs) =
    ap (λ (b : Bool). b || list_any (shows name) (map cond_alone cs)) (shows_alone name c)
    ∙ ap (λ (b : Bool). shows name c || b) (any_shows_alone name cs)

pub alone_22 : Alone rule_22
alone_22 net =
    in_acts_alone (not_shown (without_places net)) (not_shown net) (λ m row a.
    wrong_source_alone (λ name. list_any (shows name) (map cond_alone row.conds))
    (λ name. list_any (shows name) row.conds) (λ name. any_shows_alone name row.conds) a) net

target_domain_alone : (net : RawNet) (m : RawMachine) (a : RawAct)
    → target_domain (without_places net) (machine_alone m) (act_alone a)
    ≡ typed_alone (target_domain net m a)
target_domain_alone net m (acts.Emit w source) = event_domain_alone net w.name
target_domain_alone net m (acts.Set w source) = state_domain_alone m w.name

same_domain_alone : (a b : Option Word)
    → same_domain (typed_alone a) (typed_alone b) ≡ same_domain a b
same_domain_alone None b = refl
same_domain_alone (Some d) None = refl
same_domain_alone (Some d) (Some e) = refl

pub alone_23 : Alone rule_23
alone_23 net =
    let n : RawNet = without_places net in
    in_acts_alone (other_domain n) (other_domain net) (λ m row a.
    let to : Option Word = target_domain n (machine_alone m) (act_alone a) in
    wrong_source_alone (λ name. same_domain (event_domain n name) to)
    (λ name. same_domain (event_domain net name) (target_domain net m a)) (λ name.
    ap (λ (o : Option Word). same_domain o to) (event_domain_alone net name)
    ∙ ap (same_domain (typed_alone (event_domain net name))) (target_domain_alone net m a)
    ∙ same_domain_alone (event_domain net name) (target_domain net m a)) a) net

wrong_sum_alone : (p : List ℕ → Bool) (o : Option RawSource)
    → empty (wrong_sum p (given_alone o)) ≡ empty (wrong_sum p o)
wrong_sum_alone p None = refl
wrong_sum_alone p (Some (sources.Value value)) = refl
wrong_sum_alone p (Some (sources.Input w)) = refl
wrong_sum_alone p (Some (sources.Add w number)) =
    unless_alone (p w.name) (p w.name) 0 w.at refl

other_name_alone : (net : RawNet) (m : RawMachine) (row : RawRow) (a : RawAct)
    → empty (other_name (without_places net) (machine_alone m) (row_alone row) (act_alone a))
    ≡ empty (other_name net m row a)
other_name_alone net m row (acts.Emit w source) = wrong_sum_alone no_name source
other_name_alone net m row (acts.Set w source) =
    wrong_sum_alone (λ name. is_same name w.name) (Some source)

pub alone_24 : Alone rule_24
alone_24 net =
    in_acts_alone (other_name (without_places net)) (other_name net) (other_name_alone net) net

not_below_alone : (count : ℕ) (o : Option RawSource)
    → empty (not_below count (given_alone o)) ≡ empty (not_below count o)
not_below_alone count None = refl
not_below_alone count (Some (sources.Value value)) = refl
not_below_alone count (Some (sources.Input w)) = refl
not_below_alone count (Some (sources.Add w number)) =
    unless_alone (nat_lt number.number count) (nat_lt number.number count) 0 number.at refl

pub alone_25 : Alone rule_25
alone_25 net =
    let n : RawNet = without_places net in
    in_acts_alone (too_much n) (too_much net) (λ m row a.
    let count : ℕ = count_at net (target_domain net m a) in
    let same : count_at n (target_domain n (machine_alone m) (act_alone a)) ≡ count =
    ap (count_at n) (target_domain_alone net m a) ∙ count_at_alone net (target_domain net m a) in
    ap (λ (k : ℕ). empty (not_below k (source_of (act_alone a)))) same
    ∙ ap (λ (o : Option RawSource). empty (not_below count o)) (source_of_alone a)
    ∙ not_below_alone count (source_of a)) net

-- ---- all rules

-- none of these is broken
abbrev kept : List Rule → Bool
kept [] = true
kept (rule ∷ rest) = empty rule.1 && kept rest

-- one more rule that both break or neither does
infixr 20 ◌⩓◌
◌⩓◌ : {a b c d : Bool} → a ≡ c → b ≡ d → (a && b) ≡ (c && d)
◌⩓◌ {b = b} {c = c} p q = ap (λ (t : Bool). t && b) p ∙ ap (λ (t : Bool). c && t) q

rules_alone : (net : RawNet) → kept (rules (without_places net)) ≡ kept (rules net)
rules_alone net =
    alone_1 net ⩓ alone_2 net ⩓ alone_3 net ⩓ alone_4 net ⩓ alone_5 net ⩓ alone_6 net ⩓ alone_7 net
    ⩓ alone_8 net ⩓ alone_9 net ⩓ alone_10 net ⩓ alone_11 net ⩓ alone_12 net ⩓ alone_13 net
    ⩓ alone_14 net ⩓ alone_15 net ⩓ alone_16 net ⩓ alone_17 net ⩓ alone_18 net ⩓ alone_19 net
    ⩓ alone_20 net ⩓ alone_21 net ⩓ alone_22 net ⩓ alone_23 net ⩓ alone_24 net ⩓ alone_25 net ⩓ refl

none_least : (places : List ℕ) (rule : ℕ) (later : Option Broken)
    → broken_at rule (least_place places) later ≡ None
    → (empty places ≡ true) × (later ≡ None)
none_least [] rule later none = (refl, none)
none_least (p ∷ ps) rule later none = by (least_place ps) none
  where
    by : (o : Option ℕ) → broken_at rule (sooner (Some p) o) later ≡ None
        → (false ≡ true) × (later ≡ None)
    by None h = absurd (none-some _ (sym h))
    by (Some q) h = absurd (none-some _ (sym h))

none_kept : (rs : List Rule) → first_broken rs ≡ None → kept rs ≡ true
none_kept [] none = refl
none_kept (r ∷ rs) none =
    let parts = none_least r.1 r.0 (first_broken rs) none in
    rw (parts.0, none_kept rs parts.1) refl

kept_none : (rs : List Rule) → kept rs ≡ true → first_broken rs ≡ None
kept_none [] all = refl
kept_none (r ∷ rs) all = by r.1 (kept_none rs) all
  where
    by : (places : List ℕ) → (kept rs ≡ true → first_broken rs ≡ None)
        → (empty places && kept rs) ≡ true
        → broken_at r.0 (least_place places) (first_broken rs) ≡ None
    by [] rest h = rest h
    by (p ∷ ps) rest h = absurd (true≢false (sym h))

-- no rule is broken where none is broken without the places, and the other way round
pub broken_alone : (net : RawNet) → broken (without_places net) ≡ None → broken net ≡ None
broken_alone net none =
    kept_none (rules net)
    (sym (rules_alone net) ∙ none_kept (rules (without_places net)) none)

pub alone_broken : (net : RawNet) → broken net ≡ None → broken (without_places net) ≡ None
alone_broken net none =
    kept_none (rules (without_places net)) (rules_alone net ∙ none_kept (rules net) none)
