-- The actions of a row name no result twice.
use Rattle.std.proofs.Common.{◌≡◌, ◌∙◌, ◌<◌, ℕ, suc, ◌+◌, Bool, true, false, cond, not, ◌&&◌, ◌||◌, ◌==◌, nat_lt, List, [], ◌∷◌, ◌++◌, length, map, flat_map, Option, Some, None, is_some, unwrap_or, refl, ap, sym, true≢false, ne_eqb, arith}
use Rattle.std.proofs.Math.Dec.{eqb-suc-zero, eqb-zero-suc, eqb-suc-suc}
use Rattle.std.proofs.lemmas.List.{length-map}
use Rattle.std.specs.Option.{option_map}
use Rattle.std.specs.List.{list_any}
use Rattle.std.specs.Cmp.Lexicographic.{nat_list_eq_equiv}
use Rattle.domains.specs.Names.{is_same, are_distinct}
use Rattle.transition_table.specs.RowFacts.{are_actions}
use Rattle.transition_table.specs.declared.row.Act.{Act}
use Rattle.net_reader.specs.declared.raw.Word.{Word}
use Rattle.net_reader.specs.declared.raw.RawState.{RawState}
use Rattle.net_reader.specs.declared.raw.RawAct.{RawAct}
use Rattle.net_reader.specs.declared.raw.RawAct.TheVariants as acts
use Rattle.net_reader.specs.declared.raw.RawMachine.{RawMachine}
use Rattle.net_reader.specs.declared.raw.RawNet.{RawNet}
use Rattle.net_names.specs.Places.{unless}
use Rattle.net_names.specs.Numbers.{names_of, number_in, is_among, is_name_of, missing, repeated, no_name, number}
use Rattle.net_names.specs.Scopes.{state_words}
use Rattle.rule_judge.specs.Rules.{emitted, set_names, not_once}
use Rattle.net_rules.specs.Networks.{act_of}
use Rattle.net_names.proofs.NameNumbers.{among_number}
use Rattle.net_names.proofs.NumberIn.{number_below}
use Rattle.net_rules.proofs.HasReceivers.{first_nil, rest_nil, holds, fresh}
use Rattle.std.proofs.lemmas.Bool.{not-true}
use Rattle.polis_base.proofs.Bools.{and_first, and_second, neither_first, neither_second}
use Rattle.polis_base.proofs.Places.{some_is}

-- two names that have numbers are the same where the numbers are
same_numbers : (names : List (List ℕ)) (a b : List ℕ) (i j : ℕ) → number_in names a ≡ Some i
    → number_in names b ≡ Some j → (i == j) ≡ is_same a b
same_numbers [] a b i j p q = absurd (true≢false (sym (ap is_some p)))
same_numbers (m ∷ names) a b i j p q =
    by (is_same a m) refl (is_same b m) refl (number_in names a) (number_in names b) p q
    (same_numbers names a b)
  where
    apart : is_same a m ≡ true → is_same a b ≡ is_same b m
    apart x = nat_list_eq_equiv.congr a m b x ∙ nat_list_eq_equiv.symm m b

    by : (x : Bool) → is_same a m ≡ x → (y : Bool) → is_same b m ≡ y → (o u : Option ℕ)
        → cond x (Some 0) (option_map suc o) ≡ Some i → cond y (Some 0) (option_map suc u) ≡ Some j
        → ((i j : ℕ) → o ≡ Some i → u ≡ Some j → (i == j) ≡ is_same a b) → (i == j) ≡ is_same a b
    by true x true y o u p q rest = (λ k. sym (some_is 0 i p) k == sym (some_is 0 j q) k)
        ∙ sym (apart x ∙ y)
    by true x false y o None p q rest = absurd (true≢false (sym (ap is_some q)))
    by true x false y o (Some v) p q rest =
        (λ k. sym (some_is 0 i p) k == sym (some_is (suc v) j q) k) ∙ eqb-zero-suc v
        ∙ sym (apart x ∙ y)
    by false x true y None u p q rest = absurd (true≢false (sym (ap is_some p)))
    by false x true y (Some v) u p q rest =
        (λ k. sym (some_is (suc v) i p) k == sym (some_is 0 j q) k) ∙ eqb-suc-zero v
        ∙ sym (nat_list_eq_equiv.symm a b ∙ nat_list_eq_equiv.congr b m a y
        ∙ nat_list_eq_equiv.symm m a ∙ x)
    by false x false y None u p q rest = absurd (true≢false (sym (ap is_some p)))
    by false x false y (Some v) None p q rest = absurd (true≢false (sym (ap is_some q)))
    by false x false y (Some v) (Some w) p q rest =
        (λ k. sym (some_is (suc v) i p) k == sym (some_is (suc w) j q) k) ∙ eqb-suc-suc v w
        ∙ rest v w refl refl

-- a declared name has its number
pub has_it : (words : List Word) (name : List ℕ) → is_name_of words name ≡ true
    → number_in (names_of words) name ≡ Some (number words name)
has_it words name there =
    by (number_in (names_of words) name) (among_number (names_of words) name ∙ there)
  where
    by : (o : Option ℕ) → is_some o ≡ true → o ≡ Some (unwrap_or o 0)
    by None h = absurd (true≢false (sym h))
    by (Some x) h = refl

pub in_range : (words : List Word) (name : List ℕ) → is_name_of words name ≡ true
    → number words name < length words
in_range words name there =
    omega (
      arith,
      number_below (names_of words) name (number words name) (has_it words name there),
      length-map words (λ (w : Word). w.name),
    )

pub same_declared : (words : List Word) (a b : List ℕ) → is_name_of words a ≡ true
    → is_name_of words b ≡ true → (number words a == number words b) ≡ is_same a b
same_declared words a b p q =
    same_numbers (names_of words) a b (number words a) (number words b) (has_it words a p)
    (has_it words b q)

pub first_known : (declared : List Word) (w : Word) (words : List Word)
    → missing (is_name_of declared) (w ∷ words) ≡ [] → is_name_of declared w.name ≡ true
first_known declared w words h =
    holds (is_name_of declared w.name) w.at
    (first_nil (unless (is_name_of declared w.name) w.at) (missing (is_name_of declared) words) h)

pub rest_known : (declared : List Word) (w : Word) (words : List Word)
    → missing (is_name_of declared) (w ∷ words) ≡ [] → missing (is_name_of declared) words ≡ []
rest_known declared w words h =
    rest_nil (unless (is_name_of declared w.name) w.at) (missing (is_name_of declared) words) h

sum_same : (c a b : ℕ) → (c + a == c + b) ≡ (a == b)
sum_same c a b = grind arith

module _ (net : RawNet) (m : RawMachine) where
  states_long : length (state_words m) ≡ length m.states
  states_long = length-map m.states (λ (s : RawState). s.name)

  -- a later action on another variable, or an emission, has another result
  other_set : (w : Word) → is_name_of (state_words m) w.name ≡ true → (list : List RawAct)
      → missing (is_name_of (state_words m)) (flat_map set_names list) ≡ []
      → is_among (names_of (flat_map set_names list)) w.name ≡ false
      → list_any (λ (later : Act). later.result == 1 + number (state_words m) w.name)
      (map (act_of net m) list) ≡ false
  other_set w there [] known apart = refl
  other_set w there (acts.Emit e v ∷ list) known apart =
      let above : (1 + length m.states + number m.outputs e.name == 1
      + number (state_words m) w.name) ≡ false = ne_eqb
      (1 + length m.states + number m.outputs e.name) (1 + number (state_words m) w.name)
      (λ h. absurd (omega (arith, h, in_range (state_words m) w.name there, states_long))) in
      let rest = other_set w there list known apart in
      λ i. above i || rest i
  other_set w there (acts.Set x v ∷ list) known apart =
      let own = sum_same 1 (number (state_words m) x.name) (number (state_words m) w.name)
      ∙ same_declared (state_words m) x.name w.name
      (first_known (state_words m) x (flat_map set_names list) known) there
      ∙ nat_list_eq_equiv.symm x.name w.name
      ∙ neither_first (is_same w.name x.name) (is_among (names_of (flat_map set_names list)) w.name)
      apart in
      let rest = other_set w there list
      (rest_known (state_words m) x (flat_map set_names list) known)
      (neither_second (is_same w.name x.name) (is_among (names_of (flat_map set_names list)) w.name)
      apart) in
      λ i. own i || rest i

  other_emit : (w : Word) → is_name_of m.outputs w.name ≡ true → (list : List RawAct)
      → missing (is_name_of (state_words m)) (flat_map set_names list) ≡ []
      → missing (is_name_of m.outputs) (flat_map emitted list) ≡ []
      → is_among (names_of (flat_map emitted list)) w.name ≡ false
      → list_any (λ (later : Act). later.result == 1 + length m.states + number m.outputs w.name)
      (map (act_of net m) list) ≡ false
  other_emit w there [] sets known apart = refl
  other_emit w there (acts.Set x v ∷ list) sets known apart =
      let below : (1 + number (state_words m) x.name == 1 + length m.states
      + number m.outputs w.name) ≡ false = ne_eqb (1 + number (state_words m) x.name)
      (1 + length m.states + number m.outputs w.name)
      (λ h. absurd (omega (
        arith,
        h,
        in_range (state_words m) x.name
            (first_known (state_words m) x (flat_map set_names list) sets),
        states_long,
      ))) in
      let rest = other_emit w there list
      (rest_known (state_words m) x (flat_map set_names list) sets) known apart in
      λ i. below i || rest i
  other_emit w there (acts.Emit x v ∷ list) sets known apart =
      let own = sum_same (1 + length m.states) (number m.outputs x.name) (number m.outputs w.name)
      ∙ same_declared m.outputs x.name w.name
      (first_known m.outputs x (flat_map emitted list) known) there
      ∙ nat_list_eq_equiv.symm x.name w.name
      ∙ neither_first (is_same w.name x.name) (is_among (names_of (flat_map emitted list)) w.name)
      apart in
      let rest = other_emit w there list sets (rest_known m.outputs x (flat_map emitted list) known)
      (neither_second (is_same w.name x.name) (is_among (names_of (flat_map emitted list)) w.name)
      apart) in
      λ i. own i || rest i

  positive : (n : ℕ) → nat_lt 0 (1 + n) ≡ true
  positive n = grind arith

  -- declared names that are distinct give distinct results
  acts_kept : (list : List RawAct) → missing (is_name_of (state_words m)) (flat_map set_names list)
      ≡ [] → missing (is_name_of m.outputs) (flat_map emitted list) ≡ []
      → are_distinct (names_of (flat_map set_names list)) ≡ true
      → are_distinct (names_of (flat_map emitted list)) ≡ true
      → are_actions (map (act_of net m) list) ≡ true
  acts_kept [] sets emits once twice = refl
  acts_kept (acts.Set w v ∷ list) sets emits once twice =
      let names = names_of (flat_map set_names list) in
      let apart = not-true (is_among names w.name)
      (and_first (not (is_among names w.name)) (are_distinct names) once) in
      let other = other_set w (first_known (state_words m) w (flat_map set_names list) sets) list
      (rest_known (state_words m) w (flat_map set_names list) sets) apart in
      let rest = acts_kept list (rest_known (state_words m) w (flat_map set_names list) sets) emits
      (and_second (not (is_among names w.name)) (are_distinct names) once) twice in
      λ i. positive (number (state_words m) w.name) i && not (other i) && rest i
  acts_kept (acts.Emit w v ∷ list) sets emits once twice =
      let names = names_of (flat_map emitted list) in
      let apart = not-true (is_among names w.name)
      (and_first (not (is_among names w.name)) (are_distinct names) twice) in
      let other = other_emit w (first_known m.outputs w (flat_map emitted list) emits) list sets
      (rest_known m.outputs w (flat_map emitted list) emits) apart in
      let rest = acts_kept list sets (rest_known m.outputs w (flat_map emitted list) emits) once
      (and_second (not (is_among names w.name)) (are_distinct names) twice) in
      let above : nat_lt 0 (1 + length m.states + number m.outputs w.name) ≡ true = grind arith in
      λ i. above i && not (other i) && rest i

  -- a row in which rule 18 isn't broken has actions that name no result twice
  pub actions_kept : (list : List RawAct)
      → not_once m.outputs (flat_map emitted list)
      ++ not_once (state_words m) (flat_map set_names list) ≡ []
      → are_actions (map (act_of net m) list) ≡ true
  actions_kept list h =
      let emits = flat_map emitted list in
      let sets = flat_map set_names list in
      let first = first_nil (not_once m.outputs emits) (not_once (state_words m) sets) h in
      let second = rest_nil (not_once m.outputs emits) (not_once (state_words m) sets) h in
      acts_kept list
      (first_nil (missing (is_name_of (state_words m)) sets) (repeated no_name sets) second)
      (first_nil (missing (is_name_of m.outputs) emits) (repeated no_name emits) first)
      (fresh no_name sets
      (rest_nil (missing (is_name_of (state_words m)) sets) (repeated no_name sets)
      second)).distinct
      (fresh no_name emits
      (rest_nil (missing (is_name_of m.outputs) emits) (repeated no_name emits) first)).distinct
