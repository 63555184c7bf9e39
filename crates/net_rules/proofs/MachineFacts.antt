-- What a machine keeps, where no rule is broken.
use Rattle.std.proofs.Common.{◌≡◌, ◌∙◌, ◌≤◌, ◌<◌, ◌^◌, ℕ, zero, suc, ◌+◌, ◌-◌, Bool, true, false, cond, ◌&&◌, ◌||◌, ◌==◌, nat_le, nat_lt, List, [], ◌∷◌, ◌++◌, map, flat_map, find, length, take, drop, get_or, slice_index, Option, Some, None, is_some, unwrap_or, ap, sym, true≢false, refl, arith}
use Rattle.std.proofs.lemmas.List.{length-map, length-append}
use Rattle.std.specs.Option.{option_map, option_and_then}
use Rattle.std.specs.List.{list_all, AllZip}
use Rattle.std.specs.Cmp.Lexicographic.{nat_list_eq_equiv, pointwise, same_text}
use Rattle.domains.specs.Names.{is_same}
use Rattle.domains.specs.Tables.{are_sizes}
use Rattle.transition_table.specs.MachineFacts.{are_vars, are_results, names_codes, names_result, is_source, has_present, is_row}
use Rattle.transition_table.specs.declared.decl.StateDecl.{StateDecl}
use Rattle.transition_table.specs.Sources.{variable_of}
use Rattle.transition_table.specs.declared.row.Source.TheVariants.{Input}
use Rattle.transition_table.specs.declared.row.Act.{Act}
use Rattle.transition_table.specs.declared.row.Row.{Row}
use Rattle.net_reader.specs.declared.raw.Word.{Word}
use Rattle.net_reader.specs.declared.raw.RawValue.{RawValue}
use Rattle.net_reader.specs.declared.raw.RawShape.{RawShape}
use Rattle.net_reader.specs.declared.raw.RawState.{RawState}
use Rattle.net_reader.specs.declared.raw.RawCond.{RawCond}
use Rattle.net_reader.specs.declared.raw.RawSource.{RawSource}
use Rattle.net_reader.specs.declared.raw.RawSource.TheVariants as sources
use Rattle.net_reader.specs.declared.raw.RawAct.{RawAct}
use Rattle.net_reader.specs.declared.raw.RawAct.TheVariants as acts
use Rattle.net_reader.specs.declared.raw.RawRow.{RawRow}
use Rattle.net_reader.specs.declared.raw.RawMachine.{RawMachine}
use Rattle.net_reader.specs.declared.raw.RawNet.{RawNet}
use Rattle.net_names.specs.Places.{unless}
use Rattle.net_names.specs.Numbers.{names_of, is_among, is_name_of, number_in, missing, repeated, no_name, number}
use Rattle.net_names.specs.Values.{value_in, count_of, is_value, no_value, place_of}
use Rattle.net_names.specs.Scopes.{domain_words, event_words, state_words, cond_word, shape_of, shape_at, state_domain, event_domain, count_at, event_codes, state_codes, var_sizes, var_words}
use Rattle.rule_judge.specs.Rules.{emitted, set_names, not_once, wrong_emission, wrong_input, is_valued, same_domain}
use Rattle.net_rules.specs.Networks.{state_of, cond_of, act_of, allows, bits_where, value_number, source_in, emission_source, IsRowOf}
use Rattle.net_rules.specs.inner.Sound.{Each, IsSound, IsSoundMachine, IsSoundAct, IsSoundRow}
use Rattle.net_rules.proofs.HasReceivers.{first_nil, rest_nil, holds}
use Rattle.net_names.proofs.NameNumbers.{among_number}
use Rattle.net_rules.proofs.ValueIn.{value_below}
use Rattle.net_rules.proofs.BitsWhere.{bits_below}
use Rattle.net_rules.proofs.HasPresent.{number_first, all_shown}
use Rattle.net_rules.proofs.AreActions.{in_range, first_known, rest_known}
use Rattle.net_rules.proofs.Counts.{state_in, event_some, event_few}
use Rattle.std.proofs.lemmas.Bool.{le-leb, leb-true, lt-ltb}
use Rattle.domains.proofs.FittingCodes.{sizes_both}
use Rattle.polis_base.proofs.Bools.{and_first, and_second}

pub all_map : {A B : Type 0} (f : A → B) (test : B → Bool) (xs : List A)
    → ((x : A) → test (f x) ≡ true) → list_all test (map f xs) ≡ true
all_map f test [] h = refl
all_map f test (x ∷ xs) h = let own = h x in let rest = all_map f test xs h in λ i. own i && rest i

pub take_first : {A : Type 0} (xs ys : List A) → take (length xs) (xs ++ ys) ≡ xs
take_first [] ys = refl
take_first (x ∷ xs) ys = ap (λ l. x ∷ l) (take_first xs ys)

pub drop_first : {A : Type 0} (xs ys : List A) → drop (length xs) (xs ++ ys) ≡ ys
drop_first [] ys = refl
drop_first (x ∷ xs) ys = drop_first xs ys

pub eq_to : (a b : ℕ) → a ≡ b → (a == b) ≡ true
eq_to a b h = grind (arith, h)

-- a value of a domain has a number below the count
value_fits : (o : Option RawShape) (v : RawValue) → is_value o v ≡ true
    → unwrap_or (option_and_then (λ shape. value_in shape v) o) 0
    < unwrap_or (option_map count_of o) 0
value_fits None v h = absurd (true≢false (sym h))
value_fits (Some shape) v h = by (value_in shape v) refl h
  where
    by : (n : Option ℕ) → value_in shape v ≡ n → is_some n ≡ true → unwrap_or n 0 < count_of shape
    by None e h = absurd (true≢false (sym h))
    by (Some k) e h = value_below shape v k e

-- the item of a name stands at the name's number
pub record IsFoundAt {X : Type 0} (nm : X → List ℕ) (f : X → ℕ) (name : List ℕ) (xs : List X) :
    Type 0 where
  pub item : X
  pub found : find (λ x. is_same name (nm x)) xs ≡ Some item
  pub at : slice_index (map f xs) (unwrap_or (number_in (map nm xs) name) 0) ≡ f item
  pub same : is_same name (nm item) ≡ true

pub stands : {X : Type 0} (nm : X → List ℕ) (f : X → ℕ) (name : List ℕ) (xs : List X)
    → is_among (map nm xs) name ≡ true → IsFoundAt nm f name xs
stands nm f name [] there = absurd (true≢false (sym there))
stands nm f name (x ∷ xs) there = by (is_same name (nm x)) refl there (stands nm f name xs)
  where
    moved : (o : Option ℕ) → is_some o ≡ true
        → get_or (f x ∷ map f xs) (unwrap_or (option_map suc o) 0) 0
        ≡ get_or (map f xs) (unwrap_or o 0) 0
    moved None h = absurd (true≢false (sym h))
    moved (Some k) h = refl

    by : (b : Bool) → is_same name (nm x) ≡ b → (b || is_among (map nm xs) name) ≡ true
        → (is_among (map nm xs) name ≡ true → IsFoundAt nm f name xs) → IsFoundAt nm f name (x ∷ xs)
    by true e h rest = record {
      item = x;
      found = ap (λ b. cond b (Some x) (find (λ x. is_same name (nm x)) xs)) e;
      at = ap (λ b. slice_index (f x ∷ map f xs)
          (unwrap_or (cond b (Some 0) (option_map suc (number_in (map nm xs) name))) 0)) e;
      same = e;
    }
    by false e h rest =
        let r = rest h in
        record {
          item = r.item;
          found = ap (λ b. cond b (Some x) (find (λ x. is_same name (nm x)) xs)) e ∙ r.found;
          at = ap (λ b. slice_index (f x ∷ map f xs)
              (unwrap_or (cond b (Some 0) (option_map suc (number_in (map nm xs) name))) 0)) e
              ∙ moved (number_in (map nm xs) name) (among_number (map nm xs) name ∙ h) ∙ r.at;
          same = r.same;
        }

get_first : (xs ys : List ℕ) (k : ℕ) → k < length xs → get_or (xs ++ ys) k 0 ≡ get_or xs k 0
get_first [] ys k h = absurd (omega (arith, h))
get_first (x ∷ xs) ys zero h = refl
get_first (x ∷ xs) ys (suc k) h = get_first xs ys k (omega (arith, h))

get_past : (xs ys : List ℕ) (k : ℕ) → get_or (xs ++ ys) (length xs + k) 0 ≡ get_or ys k 0
get_past [] ys k = let e : 0 + k ≡ k = omega arith in ap (λ n. get_or ys n 0) e
get_past (x ∷ xs) ys k = let e : suc (length xs) + k ≡ suc (length xs + k) = omega arith in
    ap (λ n. get_or (x ∷ xs ++ ys) n 0) e ∙ get_past xs ys k

module _ (net : RawNet) (m : RawMachine) (sound : IsSound net) (kept : IsSoundMachine net m) where
  event_sizes_fit : (ws : List Word) → are_sizes (map (event_codes net) ws) ≡ true
  event_sizes_fit [] = refl
  event_sizes_fit (w ∷ ws) =
      let some = le-leb 1 (event_codes net w) (omega (arith, event_some net sound w)) in
      let few = le-leb (event_codes net w) 33 (event_few net sound w) in
      let rest = event_sizes_fit ws in
      λ i. some i && few i && rest i

  state_sizes_fit : (ss : List RawState)
      → missing (is_name_of (domain_words net)) (map (λ (s : RawState). s.domain) ss) ≡ []
      → are_sizes (map (state_codes net) ss) ≡ true
  state_sizes_fit [] h = refl
  state_sizes_fit (s ∷ ss) h =
      let own = state_in net s.domain sound
      (first_known (domain_words net) s.domain (map (λ (s : RawState). s.domain) ss) h) in
      let some = le-leb 1 (state_codes net s) own.0 in
      let few = le-leb (state_codes net s) 33 (omega (arith, own.1)) in
      let rest = state_sizes_fit ss
      (rest_known (domain_words net) s.domain (map (λ (s : RawState). s.domain) ss) h) in
      λ i. some i && few i && rest i

  inits_fit : (ss : List RawState)
      → flat_map (λ (s : RawState). no_value (shape_of net s.domain.name) s.init) ss ≡ []
      → pointwise (λ (state : StateDecl) size. nat_lt state.init size) (map (state_of net) ss)
      (map (state_codes net) ss) ≡ true
  inits_fit [] h = refl
  inits_fit (s ∷ ss) h =
      let places = no_value (shape_of net s.domain.name) s.init in
      let later = flat_map (λ (s : RawState). no_value (shape_of net s.domain.name) s.init) ss in
      let own = value_fits (shape_of net s.domain.name) s.init
      (holds (is_value (shape_of net s.domain.name) s.init) (place_of s.init)
      (first_nil places later h)) in
      let first : nat_lt (value_number net (Some s.domain) s.init) (state_codes net s) ≡ true =
      lt-ltb (value_number net (Some s.domain) s.init) (state_codes net s) own in
      let rest = inits_fit ss (rest_nil places later h) in
      λ i. first i && rest i

  abbrev inputs : List ℕ
  inputs = map (λ (w : Word). number (event_words net) w.name) m.inputs

  abbrev input_sizes : List ℕ
  input_sizes = map (event_codes net) m.inputs

  prefix : length inputs ≡ length input_sizes
  prefix = length-map m.inputs (λ (w : Word). number (event_words net) w.name)
      ∙ sym (length-map m.inputs (event_codes net))

  vars_first : take (length inputs) (var_sizes net m) ≡ map (event_codes net) m.inputs
  vars_first = ap (λ n. take n (var_sizes net m)) prefix
      ∙ take_first (map (event_codes net) m.inputs) (map (state_codes net) m.states)

  vars_rest : drop (length inputs) (var_sizes net m) ≡ map (state_codes net) m.states
  vars_rest = ap (λ n. drop n (var_sizes net m)) prefix
      ∙ drop_first (map (event_codes net) m.inputs) (map (state_codes net) m.states)

  pub vars_long : length (var_sizes net m) ≡ length m.inputs + length m.states
  vars_long = omega (
    arith,
    length-append (map (event_codes net) m.inputs) (map (state_codes net) m.states),
    length-map m.inputs (event_codes net),
    length-map m.states (state_codes net),
  )

  pub sizes_fit : are_sizes (var_sizes net m) ≡ true
  sizes_fit = sizes_both (map (event_codes net) m.inputs) (map (state_codes net) m.states)
      (event_sizes_fit m.inputs) (state_sizes_fit m.states kept.domains)

  pub few_rows : length m.rows ≤ 512
  few_rows = leb-true (length m.rows) 512
      (and_second (nat_le (length m.inputs) 16 && nat_le (length m.outputs) 16
      && nat_le (length m.states) 8) (nat_le (length m.rows) 512) kept.small)

  three_few : (nat_le (length m.inputs) 16 && nat_le (length m.outputs) 16
      && nat_le (length m.states) 8) ≡ true
  three_few = and_first (nat_le (length m.inputs) 16 && nat_le (length m.outputs) 16
      && nat_le (length m.states) 8) (nat_le (length m.rows) 512) kept.small

  two_few : (nat_le (length m.inputs) 16 && nat_le (length m.outputs) 16) ≡ true
  two_few = and_first (nat_le (length m.inputs) 16 && nat_le (length m.outputs) 16)
      (nat_le (length m.states) 8) three_few

  pub few_states : length m.states ≤ 8
  few_states = leb-true (length m.states) 8
      (and_second (nat_le (length m.inputs) 16 && nat_le (length m.outputs) 16)
      (nat_le (length m.states) 8) three_few)

  pub few_inputs : length m.inputs ≤ 16
  few_inputs = leb-true (length m.inputs) 16
      (and_first (nat_le (length m.inputs) 16) (nat_le (length m.outputs) 16) two_few)

  pub few_outputs : length m.outputs ≤ 16
  few_outputs = leb-true (length m.outputs) 16
      (and_second (nat_le (length m.inputs) 16) (nat_le (length m.outputs) 16) two_few)

  pub vars_short : length (var_sizes net m) ≤ 24
  vars_short = omega (arith, vars_long, few_inputs, few_states)

  pub vars_fit : are_vars (map (λ (w : Word). number (event_words net) w.name) m.inputs)
      (map (state_of net) m.states) (var_sizes net m) ≡ true
  vars_fit =
      let sizes = sizes_both (map (event_codes net) m.inputs) (map (state_codes net) m.states)
      (event_sizes_fit m.inputs) (state_sizes_fit m.states kept.domains) in
      let long = eq_to (length (var_sizes net m))
      (length inputs + length (map (state_of net) m.states))
      (omega (
        arith,
        vars_long,
        length-map m.inputs
            (λ (w : Word). number (event_words net) w.name),
        length-map m.states (state_of net),
      )) in
      let some = ap (list_all (nat_le 2)) vars_first
      ∙ all_map (event_codes net) (nat_le 2) m.inputs
      (λ w. le-leb 2 (event_codes net w) (event_some net sound w)) in
      let inits = ap (pointwise (λ (state : StateDecl) size. nat_lt state.init size)
      (map (state_of net) m.states)) vars_rest ∙ inits_fit m.states kept.inits in
      λ i. sizes i && long i && some i && inits i

  more_each : (ss : List RawState) → map (λ (size : ℕ). 1 + size) (map (state_codes net) ss)
      ≡ map (λ s. 1 + state_codes net s) ss
  more_each [] = refl
  more_each (s ∷ ss) = ap (λ l. (1 + state_codes net s) ∷ l) (more_each ss)

  one_more : 1 + length (map (state_of net) m.states)
      ≡ suc (length (map (λ s. 1 + state_codes net s) m.states))
  one_more = omega (
    arith,
    length-map m.states (state_of net),
    length-map m.states (λ s. 1 + state_codes net s),
  )

  pub results_rest : drop (1 + length (map (state_of net) m.states))
      (2 ∷ map (λ s. 1 + state_codes net s) m.states ++ map (event_codes net) m.outputs)
      ≡ map (event_codes net) m.outputs
  results_rest = ap
      (λ n. drop n (2 ∷ map (λ s. 1 + state_codes net s) m.states
      ++ map (event_codes net) m.outputs)) one_more
      ∙ drop_first (map (λ s. 1 + state_codes net s) m.states) (map (event_codes net) m.outputs)

  results_first : take (1 + length (map (state_of net) m.states))
      (2 ∷ map (λ s. 1 + state_codes net s) m.states ++ map (event_codes net) m.outputs)
      ≡ 2 ∷ map (λ s. 1 + state_codes net s) m.states
  results_first =
      ap (λ n. take n (2 ∷ map (λ s. 1 + state_codes net s) m.states
      ++ map (event_codes net) m.outputs)) one_more
      ∙ ap (λ l. 2 ∷ l)
      (take_first (map (λ s. 1 + state_codes net s) m.states) (map (event_codes net) m.outputs))

  results_long : length (2 ∷ map (λ s. 1 + state_codes net s) m.states
      ++ map (event_codes net) m.outputs) ≡ 1 + length m.states + length m.outputs
  results_long = omega (
    arith,
    length-append (map (λ s. 1 + state_codes net s) m.states)
        (map (event_codes net) m.outputs),
    length-map m.states (λ s. 1 + state_codes net s),
    length-map m.outputs (event_codes net),
  )

  pub results_fit : are_results (map (λ (w : Word). number (event_words net) w.name) m.inputs)
      (map (λ (w : Word). number (event_words net) w.name) m.outputs) (map (state_of net) m.states)
      (var_sizes net m) (2 ∷ map (λ s. 1 + state_codes net s) m.states
      ++ map (event_codes net) m.outputs) ≡ true
  results_fit =
      let all = 2 ∷ map (λ s. 1 + state_codes net s) m.states ++ map (event_codes net) m.outputs in
      let long = eq_to (length all) (1 + length (map (state_of net) m.states)
      + length (map (λ (w : Word). number (event_words net) w.name) m.outputs))
      (omega (
        arith,
        results_long,
        length-map m.outputs
            (λ (w : Word). number (event_words net) w.name),
        length-map m.states (state_of net),
      )) in
      let set = (λ i.
      pointwise ◌==◌ (2 ∷ (ap (map (λ (size : ℕ). 1 + size)) vars_rest ∙ more_each m.states) i)
      (results_first i)) ∙ nat_list_eq_equiv.refl
      (2 ∷ map (λ s. 1 + state_codes net s) m.states) in
      let some = ap (list_all (nat_le 2)) results_rest
      ∙ all_map (event_codes net) (nat_le 2) m.outputs
      (λ w. le-leb 2 (event_codes net w) (event_some net sound w)) in
      λ i. long i && set i && some i

  conds_fit : (cs : List RawCond)
      → flat_map (λ (c : RawCond). unless
      (is_name_of (m.inputs ++ state_words m) (cond_word c).name) (cond_word c).at) cs ≡ []
      → list_all (names_codes (var_sizes net m)) (map (cond_of net m) cs) ≡ true
  conds_fit [] h = refl
  conds_fit (c ∷ cs) h =
      let places = unless (is_name_of (m.inputs ++ state_words m) (cond_word c).name)
      (cond_word c).at in
      let later = flat_map
      (λ (c : RawCond). unless (is_name_of (m.inputs ++ state_words m) (cond_word c).name)
      (cond_word c).at) cs in
      let there = holds (is_name_of (m.inputs ++ state_words m) (cond_word c).name) (cond_word c).at
      (first_nil places later h) in
      let var = number (var_words m) (cond_word c).name in
      let inside = lt-ltb var (length (var_sizes net m))
      (omega (
        arith,
        in_range (var_words m) (cond_word c).name there,
        vars_long,
        length-append m.inputs (state_words m),
        length-map m.states (λ (s : RawState). s.name),
      )) in
      let small = lt-ltb (bits_where (allows net m c) (slice_index (var_sizes net m) var))
      (2 ^ slice_index (var_sizes net m) var)
      (bits_below (allows net m c) (slice_index (var_sizes net m) var)) in
      let rest = conds_fit cs (rest_nil places later h) in
      λ i. (inside i && small i) && rest i

  state_names : (ss : List RawState)
      → names_of (map (λ (s : RawState). s.name) ss) ≡ map (λ (s : RawState). s.name.name) ss
  state_names [] = refl
  state_names (s ∷ ss) = ap (λ l. s.name.name ∷ l) (state_names ss)

  -- what sets a state variable has its size and one more
  set_size : (w : Word) → is_name_of (state_words m) w.name ≡ true
      → slice_index (2 ∷ map (λ s. 1 + state_codes net s) m.states
      ++ map (event_codes net) m.outputs) (1 + number (state_words m) w.name)
      ≡ 1 + count_at net (state_domain m w.name)
  set_size w there =
      let st = stands (λ (s : RawState). s.name.name) (λ s. 1 + state_codes net s) w.name m.states
      (ap (λ l. is_among l w.name) (sym (state_names m.states)) ∙ there) in
      let k = number (state_words m) w.name in
      let e : 1 + k ≡ suc k = omega arith in
      let below : k < length (map (λ s. 1 + state_codes net s) m.states) =
      omega (
        arith,
        in_range (state_words m) w.name there,
        length-map m.states (λ (s : RawState). s.name),
        length-map m.states (λ s. 1 + state_codes net s),
      ) in
      ap (λ n. slice_index (2 ∷ map (λ s. 1 + state_codes net s) m.states
      ++ map (event_codes net) m.outputs) n) e
      ∙ get_first (map (λ s. 1 + state_codes net s) m.states)
      (map (event_codes net) m.outputs) k below
      ∙ ap (λ l. slice_index (map (λ s. 1 + state_codes net s) m.states)
      (unwrap_or (number_in l w.name) 0)) (state_names m.states)
      ∙ st.at
      ∙ ap (λ o. 1 + count_at net (option_map (λ (s : RawState). s.domain) o)) (sym st.found)

  emit_size : (w : Word) → is_name_of m.outputs w.name ≡ true
      → slice_index (2 ∷ map (λ s. 1 + state_codes net s) m.states
      ++ map (event_codes net) m.outputs) (1 + length m.states + number m.outputs w.name)
      ≡ 1 + count_at net (event_domain net w.name)
  emit_size w there =
      let st = stands (λ (w : Word). w.name) (event_codes net) w.name m.outputs there in
      let k = number m.outputs w.name in
      let setters = map (λ s. 1 + state_codes net s) m.states in
      let e : 1 + length m.states + k ≡ suc (length setters + k) =
      omega (arith, length-map m.states (λ s. 1 + state_codes net s)) in
      ap (λ n. slice_index (2 ∷ map (λ s. 1 + state_codes net s) m.states
      ++ map (event_codes net) m.outputs) n) e
      ∙ get_past setters (map (event_codes net) m.outputs) k
      ∙ st.at
      ∙ ap (λ n. 1 + count_at net (event_domain net n))
      (sym (same_text w.name st.item.name (sym st.same)))

  abbrev results : List ℕ
  results = 2 ∷ map (λ s. 1 + state_codes net s) m.states ++ map (event_codes net) m.outputs

  state_size : (w : Word) → is_name_of (state_words m) w.name ≡ true
      → slice_index (var_sizes net m) (variable_of inputs (1 + number (state_words m) w.name))
      ≡ count_at net (state_domain m w.name)
  state_size w there =
      let st = stands (λ (s : RawState). s.name.name) (state_codes net) w.name m.states
      (ap (λ l. is_among l w.name) (sym (state_names m.states)) ∙ there) in
      let k = number (state_words m) w.name in
      let e : length inputs + (1 + k - 1) ≡ length (map (event_codes net) m.inputs) + k =
      omega (arith, prefix) in
      ap (slice_index (var_sizes net m)) e
      ∙ get_past (map (event_codes net) m.inputs) (map (state_codes net) m.states) k
      ∙ ap (λ l. slice_index (map (state_codes net) m.states) (unwrap_or (number_in l w.name) 0))
      (state_names m.states)
      ∙ st.at
      ∙ ap (λ o. count_at net (option_map (λ (s : RawState). s.domain) o)) (sym st.found)

  -- an input stands among the variables where it stands among the inputs, and has the codes of its
  -- event
  input_size : (w : Word) → is_name_of m.inputs w.name ≡ true
      → slice_index (var_sizes net m) (number (var_words m) w.name)
      ≡ 1 + count_at net (event_domain net w.name)
  input_size w there =
      let st = stands (λ (w : Word). w.name) (event_codes net) w.name m.inputs there in
      let k = number m.inputs w.name in
      let below : k < length (map (event_codes net) m.inputs) =
      omega (arith, in_range m.inputs w.name there, length-map m.inputs (event_codes net)) in
      ap (λ o. slice_index (var_sizes net m) (unwrap_or o 0))
      (number_first m.inputs (state_words m) w.name there)
      ∙ get_first (map (event_codes net) m.inputs) (map (state_codes net) m.states) k below
      ∙ st.at
      ∙ ap (λ n. 1 + count_at net (event_domain net n))
      (sym (same_text w.name st.item.name (sym st.same)))

  set_fits : (o : Option Word) (v : RawValue) → no_value (shape_at net o) v ≡ []
      → value_number net o v < count_at net o
  set_fits None v h = absurd (true≢false (sym (holds false (place_of v) h)))
  set_fits (Some d) v h =
      value_fits (shape_of net d.name) v (holds (is_value (shape_of net d.name) v) (place_of v) h)

  same_count : (a b : Option Word) → same_domain a b ≡ true → count_at net a ≡ count_at net b
  same_count None b h = absurd (true≢false (sym h))
  same_count (Some d) None h = absurd (true≢false (sym h))
  same_count (Some d) (Some e) h =
      ap (λ n. unwrap_or (option_map count_of (shape_of net n)) 0) (same_text d.name e.name (sym h))

  -- an input with the domain of what gets its value is a source
  input_fits : (w : Word) (o : Option Word) (y : ℕ) → slice_index results y ≡ 1 + count_at net o
      → wrong_input (is_valued net m) (Some (sources.Input w)) ≡ []
      → wrong_input (λ name. same_domain (event_domain net name) o) (Some (sources.Input w)) ≡ []
      → is_source inputs (var_sizes net m) results y
      (Input (number (var_words m) w.name)) ≡ true
  input_fits w o y size valued same =
      let there = and_first (is_name_of m.inputs w.name) (is_some (event_domain net w.name))
      (holds (is_valued net m w.name) w.at valued) in
      let k = number (var_words m) w.name in
      let first : k ≡ number m.inputs w.name =
      ap (λ o. unwrap_or o 0) (number_first m.inputs (state_words m) w.name there) in
      let inside = lt-ltb k (length inputs)
      (omega (
        arith,
        first,
        in_range m.inputs w.name there,
        length-map m.inputs (λ (w : Word). number (event_words net) w.name),
      )) in
      let count = same_count (event_domain net w.name) o
      (holds (same_domain (event_domain net w.name) o) w.at same) in
      let equal = eq_to (slice_index (var_sizes net m) k) (slice_index results y)
      (input_size w there ∙ ap (λ n. 1 + n) count ∙ sym size) in
      λ i. inside i && equal i

  -- what an emission takes its code from
  emission_fits : (row : RawRow) (w : Word) (source : Option RawSource) (y : ℕ)
      → slice_index results y ≡ 1 + count_at net (event_domain net w.name)
      → IsSoundAct net m row (acts.Emit w source)
      → is_source inputs (var_sizes net m) results y
      (emission_source net m (event_domain net w.name) source) ≡ true
  emission_fits row w None y size s =
      lt-ltb 1 (slice_index results y) (omega (arith, size, event_some net sound w))
  emission_fits row w (Some (sources.Value v)) y size s =
      lt-ltb (1 + value_number net (event_domain net w.name) v) (slice_index results y)
      (omega (arith, size, given (event_domain net w.name) s.value))
    where
      given : (d : Option Word) → wrong_emission net w d (Some (sources.Value v)) ≡ []
          → value_number net d v < count_at net d
      given None h = absurd (some_place h)
        where
          some_place : w.at ∷ [] ≡ [] → ⊥
          some_place h = true≢false (sym (ap is_nil h))
            where
              is_nil : List ℕ → Bool
              is_nil [] = true
              is_nil (p ∷ ps) = false
      given (Some d) h =
          value_fits (shape_of net d.name) v
          (holds (is_value (shape_of net d.name) v) (place_of v) h)
  emission_fits row w (Some (sources.Input x)) y size s =
      input_fits x (event_domain net w.name) y size s.input s.domain
  emission_fits row w (Some (sources.Add x n)) y size s =
      absurd (true≢false (sym (holds false x.at s.name)))

  -- and what a set variable takes it from
  set_source_fits : (row : RawRow) (w : Word) (source : RawSource)
      → is_name_of (state_words m) w.name ≡ true
      → slice_index results (1 + number (state_words m) w.name)
      ≡ 1 + count_at net (state_domain m w.name) → IsSoundAct net m row (acts.Set w source)
      → is_source inputs (var_sizes net m) results (1 + number (state_words m) w.name)
      (source_in net m (state_domain m w.name) source) ≡ true
  set_source_fits row w (sources.Value v) there size s =
      lt-ltb (1 + value_number net (state_domain m w.name) v)
      (slice_index results (1 + number (state_words m) w.name))
      (omega (arith, size, set_fits (state_domain m w.name) v s.value))
  set_source_fits row w (sources.Input x) there size s =
      input_fits x (state_domain m w.name) (1 + number (state_words m) w.name) size s.input s.domain
  set_source_fits row w (sources.Add x n) there size s =
      let k = number (state_words m) w.name in
      let y = 1 + k in
      let some : nat_lt 0 (1 + k) ≡ true = grind arith in
      let var : variable_of inputs (1 + k) ≡ length m.inputs + k =
      (let e : length inputs + (1 + k - 1)
      ≡ length m.inputs + k =
      omega (
        arith,
        length-map m.inputs
            (λ (w : Word). number (event_words net) w.name),
      ) in e) in
      let inside = lt-ltb (variable_of inputs (1 + k)) (length (var_sizes net m))
      (omega (
        arith,
        var,
        in_range (state_words m) w.name there,
        vars_long,
        length-map m.states (λ (s : RawState). s.name),
      )) in
      let few = holds (nat_lt n.number (count_at net (state_domain m w.name))) n.at s.amount in
      let amount = ap (nat_lt n.number) (state_size w there) ∙ few in
      λ i. (some i && inside i) && amount i

  acts_fit : (row : RawRow) (list : List RawAct) → Each (IsSoundAct net m row) list
      → missing (is_name_of m.outputs) (flat_map emitted list) ≡ []
      → missing (is_name_of (state_words m)) (flat_map set_names list) ≡ []
      → list_all (names_result inputs (var_sizes net m) results) (map (act_of net m) list) ≡ true
  acts_fit row [] h emits sets = refl
  acts_fit row (acts.Set w source ∷ list) h emits sets =
      let there = first_known (state_words m) w (flat_map set_names list) sets in
      let inside = lt-ltb (1 + number (state_words m) w.name) (length results)
      (omega (
        arith,
        in_range (state_words m) w.name there,
        results_long,
        length-map m.states (λ (s : RawState). s.name),
      )) in
      let code = set_source_fits row w source there (set_size w there)
      (h 0 (acts.Set w source) refl) in
      let rest = acts_fit row list (λ i x at. h (suc i) x at) emits
      (rest_known (state_words m) w (flat_map set_names list) sets) in
      λ i. (inside i && code i) && rest i
  acts_fit row (acts.Emit w source ∷ list) h emits sets =
      let there = first_known m.outputs w (flat_map emitted list) emits in
      let inside = lt-ltb (1 + length m.states + number m.outputs w.name) (length results)
      (omega (arith, in_range m.outputs w.name there, results_long)) in
      let code = emission_fits row w source (1 + length m.states + number m.outputs w.name)
      (emit_size w there) (h 0 (acts.Emit w source) refl) in
      let rest = acts_fit row list (λ i x at. h (suc i) x at)
      (rest_known m.outputs w (flat_map emitted list) emits) sets in
      λ i. (inside i && code i) && rest i

  pub rows_fit : (rs : List RawRow) (made : List Row) → AllZip (IsRowOf net m) rs made
      → Each (IsSoundRow net m) rs
      → list_all (is_row (map (λ (w : Word). number (event_words net) w.name) m.inputs)
      (var_sizes net m) (2 ∷ map (λ s. 1 + state_codes net s) m.states
      ++ map (event_codes net) m.outputs)) made ≡ true
  rows_fit [] [] all each = refl
  rows_fit [] (r ∷ made) all each = absurd all
  rows_fit (r ∷ rs) [] all each = absurd all
  rows_fit (r ∷ rs) (row ∷ made) all each =
      let results = 2 ∷ map (λ s. 1 + state_codes net s) m.states
      ++ map (event_codes net) m.outputs in
      let own = each 0 r refl in
      let emits = flat_map emitted r.acts in
      let sets = flat_map set_names r.acts in
      let first = first_nil (not_once m.outputs emits) (not_once (state_words m) sets)
      own.targets in
      let second = rest_nil (not_once m.outputs emits) (not_once (state_words m) sets)
      own.targets in
      let conds = ap (list_all (names_codes (var_sizes net m))) all.0.conds
      ∙ conds_fit r.conds own.known in
      let actions = ap (list_all (names_result inputs (var_sizes net m) results)) all.0.acts
      ∙ acts_fit r r.acts own.acts
      (first_nil (missing (is_name_of m.outputs) emits) (repeated no_name emits) first)
      (first_nil (missing (is_name_of (state_words m)) sets) (repeated no_name sets) second) in
      let shown = ap (list_all (λ (act : Act). has_present row.conds act.source)) all.0.acts
      ∙ ap (λ l. list_all (λ (act : Act). has_present l act.source) (map (act_of net m) r.acts))
      all.0.conds ∙ all_shown net m kept r r.acts own.acts in
      let rest = rows_fit rs made all.1 (λ i x at. each (suc i) x at) in
      λ i. ((conds i && actions i) && shown i) && rest i
