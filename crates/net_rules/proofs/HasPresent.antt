-- Inputs whose values are passed on, and the conditions that want them present.
use Rattle.std.proofs.Common.{◌≡◌, ◌∙◌, ℕ, zero, suc, ◌+◌, Bool, true, false, cond, ◌&&◌, ◌||◌, ◌==◌, List, [], ◌∷◌, ◌++◌, map, slice_index, Some, None, is_some, refl, ap, sym, true≢false, arith}
use Rattle.std.proofs.Math.Dec.{eqb-zero-suc}
use Rattle.std.specs.Option.{option_map}
use Rattle.std.specs.List.{list_all, list_any}
use Rattle.std.specs.Int.{bit_at}
use Rattle.std.specs.Cmp.Lexicographic.{same_text}
use Rattle.domains.specs.Names.{is_same}
use Rattle.transition_table.specs.MachineFacts.{wants, has_present}
use Rattle.transition_table.specs.declared.row.Act.{Act}
use Rattle.transition_table.specs.declared.row.Source.TheVariants.{Input}
use Rattle.net_reader.specs.declared.raw.Word.{Word}
use Rattle.net_reader.specs.declared.raw.RawValue.{RawValue}
use Rattle.net_reader.specs.declared.raw.RawCond.{RawCond}
use Rattle.net_reader.specs.declared.raw.RawCond.TheVariants as conds
use Rattle.net_reader.specs.declared.raw.RawSource.TheVariants as sources
use Rattle.net_reader.specs.declared.raw.RawAct.{RawAct}
use Rattle.net_reader.specs.declared.raw.RawAct.TheVariants as acts
use Rattle.net_reader.specs.declared.raw.RawRow.{RawRow}
use Rattle.net_reader.specs.declared.raw.RawMachine.{RawMachine}
use Rattle.net_reader.specs.declared.raw.RawNet.{RawNet}
use Rattle.net_names.specs.Places.{unless}
use Rattle.net_names.specs.Numbers.{names_of, is_among, is_name_of, number_in, number, repeated, no_name}
use Rattle.net_names.specs.Scopes.{state_words, cond_word, event_domain, var_sizes, var_words}
use Rattle.rule_judge.specs.Rules.{shows, is_valued}
use Rattle.net_rules.specs.Networks.{allows, bits_where, cond_of, act_of, value_code, value_number}
use Rattle.net_names.specs.Scopes.{var_domain}
use Rattle.net_rules.specs.inner.Sound.{Each, IsSoundMachine, IsSoundAct}
use Rattle.net_rules.proofs.HasReceivers.{rest_nil, holds, fresh}
use Rattle.net_rules.proofs.BitsWhere.{passes, no_more}
use Rattle.polis_base.proofs.Bools.{and_first, neither_first, neither_second}

-- a name of the first list has its number there
pub number_first : (xs ys : List Word) (name : List ℕ) → is_name_of xs name ≡ true
    → number_in (names_of (xs ++ ys)) name ≡ number_in (names_of xs) name
number_first [] ys name there = absurd (true≢false (sym there))
number_first (x ∷ xs) ys name there = by (is_same name x.name) there (number_first xs ys name)
  where
    by : (b : Bool) → (b || is_name_of xs name) ≡ true
        → (is_name_of xs name ≡ true → number_in (names_of (xs ++ ys)) name
        ≡ number_in (names_of xs) name)
        → cond b (Some 0) (option_map suc (number_in (names_of (xs ++ ys)) name))
        ≡ cond b (Some 0) (option_map suc (number_in (names_of xs) name))
    by true h rest = refl
    by false h rest = ap (option_map suc) (rest h)

-- and is a name of both lists
among_first : (xs ys : List Word) (name : List ℕ) → is_name_of xs name ≡ true
    → is_name_of (xs ++ ys) name ≡ true
among_first [] ys name there = absurd (true≢false (sym there))
among_first (x ∷ xs) ys name there = by (is_same name x.name) there (among_first xs ys name)
  where
    by : (b : Bool) → (b || is_name_of xs name) ≡ true
        → (is_name_of xs name ≡ true → is_name_of (xs ++ ys) name ≡ true)
        → (b || is_name_of (xs ++ ys) name) ≡ true
    by true h rest = refl
    by false h rest = rest h

-- a taken name is none of the names that aren't
apart : (taken : List ℕ → Bool) (names : List (List ℕ)) (name : List ℕ)
    → list_any taken names ≡ false → taken name ≡ true → list_any (is_same name) names ≡ false
apart taken [] name none is = refl
apart taken (n ∷ names) name none is = by (is_same name n) refl (λ h. apart taken names name h is)
  where
    by : (b : Bool) → is_same name n ≡ b
        → (list_any taken names ≡ false → list_any (is_same name) names ≡ false)
        → (b || list_any (is_same name) names) ≡ false
    by true same rest =
        absurd (true≢false (sym is ∙ ap taken (same_text name n (sym same))
        ∙ neither_first (taken n) (list_any taken names) none))
    by false other rest = rest (neither_second (taken n) (list_any taken names) none)

module _ (net : RawNet) (m : RawMachine) (kept : IsSoundMachine net m) where
  -- an input is no state variable
  no_state : (name : List ℕ) → is_name_of m.inputs name ≡ true
      → is_among (names_of (state_words m)) name ≡ false
  no_state name there =
      let ports = is_name_of (m.inputs ++ m.outputs) in
      let last = rest_nil (repeated no_name m.inputs ++ repeated no_name m.outputs)
      (repeated ports (state_words m)) kept.once in
      apart ports (names_of (state_words m)) name (fresh ports (state_words m) last).untaken
      (among_first m.inputs m.outputs name there)

  -- code 0 is no value of an input
  no_code : (name : List ℕ) (v : RawValue) → is_among (names_of (state_words m)) name ≡ false
      → (0 == value_code net m name v) ≡ false
  no_code name v none = ap (λ b. 0 == cond b 0 1 + value_number net (var_domain net m name) v) none
      ∙ (let e : 1 + value_number net (var_domain net m name) v
      ≡ suc (value_number net (var_domain net m name) v) = omega arith in
      ap (λ n. 0 == n) e ∙ eqb-zero-suc (value_number net (var_domain net m name) v))

  no_codes : (name : List ℕ) (vs : List RawValue) → is_among (names_of (state_words m)) name ≡ false
      → list_any (λ v. 0 == value_code net m name v) vs ≡ false
  no_codes name [] none = refl
  no_codes name (v ∷ vs) none = let own = no_code name v none in let rest = no_codes name vs none in
      λ i. own i || rest i

  -- a condition that shows an input doesn't allow code 0
  not_absent : (name : List ℕ) (c : RawCond) → is_among (names_of (state_words m)) name ≡ false
      → shows name c ≡ true → allows net m c 0 ≡ false
  not_absent name (conds.Present w) none shown = refl
  not_absent name (conds.Absent w) none shown = absurd (true≢false (sym shown))
  not_absent name (conds.Is w v) none shown =
      no_code w.name v
      (ap (is_among (names_of (state_words m))) (sym (same_text name w.name (sym shown))) ∙ none)
  not_absent name (conds.OneOf w vs) none shown =
      no_codes w.name vs
      (ap (is_among (names_of (state_words m))) (sym (same_text name w.name (sym shown))) ∙ none)

  shown_name : (name : List ℕ) (c : RawCond) → shows name c ≡ true → (cond_word c).name ≡ name
  shown_name name (conds.Present w) shown = sym (same_text name w.name (sym shown))
  shown_name name (conds.Absent w) shown = absurd (true≢false (sym shown))
  shown_name name (conds.Is w v) shown = sym (same_text name w.name (sym shown))
  shown_name name (conds.OneOf w vs) shown = sym (same_text name w.name (sym shown))

  no_zero : (test : ℕ → Bool) (n : ℕ) → test 0 ≡ false → bit_at (bits_where test n) 0 ≡ 0
  no_zero test zero none = no_more test 0 0 (omega arith)
  no_zero test (suc n) none = passes test (suc n) 0 (omega arith) ∙ ap (λ b. cond b 1 0) none

  eq_self : (k : ℕ) → (k == k) ≡ true
  eq_self k = grind arith

  wanted : (name : List ℕ) (c : RawCond) → is_among (names_of (state_words m)) name ≡ false
      → shows name c ≡ true → wants (number (var_words m) name) (cond_of net m c) ≡ true
  wanted name c none shown =
      let var = number (var_words m) (cond_word c).name in
      let same : (var == number (var_words m) name) ≡ true =
      ap (λ q. number (var_words m) q == number (var_words m) name) (shown_name name c shown)
      ∙ eq_self (number (var_words m) name) in
      let zero-bit : (bit_at (bits_where (allows net m c) (slice_index (var_sizes net m) var)) 0 ==
      0) ≡ true = ap (λ b. b == 0)
      (no_zero (allows net m c) (slice_index (var_sizes net m) var)
      (not_absent name c none shown)) in
      λ i. same i && zero-bit i

  one_wanted : (name : List ℕ) (cs : List RawCond)
      → is_among (names_of (state_words m)) name ≡ false → list_any (shows name) cs ≡ true
      → list_any (wants (number (var_words m) name)) (map (cond_of net m) cs) ≡ true
  one_wanted name [] none shown = absurd (true≢false (sym shown))
  one_wanted name (c ∷ cs) none shown =
      by (shows name c) refl shown (λ h. one_wanted name cs none h)
    where
      here : (a b : Bool) → a ≡ true → (a || b) ≡ true
      here true b h = refl
      here false b h = absurd (true≢false (sym h))

      there : (a b : Bool) → b ≡ true → (a || b) ≡ true
      there true b h = refl
      there false b h = h

      by : (b : Bool) → shows name c ≡ b → (b || list_any (shows name) cs) ≡ true
          → (list_any (shows name) cs ≡ true
          → list_any (wants (number (var_words m) name)) (map (cond_of net m) cs) ≡ true)
          → (wants (number (var_words m) name) (cond_of net m c)
          || list_any (wants (number (var_words m) name)) (map (cond_of net m) cs)) ≡ true
      by true e h rest =
          here (wants (number (var_words m) name) (cond_of net m c))
          (list_any (wants (number (var_words m) name)) (map (cond_of net m) cs))
          (wanted name c none e)
      by false e h rest =
          there (wants (number (var_words m) name) (cond_of net m c))
          (list_any (wants (number (var_words m) name)) (map (cond_of net m) cs)) (rest h)

  input_shown : (row : RawRow) (w : Word) → unless (is_valued net m w.name) w.at ≡ []
      → unless (list_any (shows w.name) row.conds) w.at ≡ []
      → has_present (map (cond_of net m) row.conds) (Input (number (var_words m) w.name)) ≡ true
  input_shown row w valued shown =
      one_wanted w.name row.conds
      (no_state w.name
      (and_first (is_name_of m.inputs w.name) (is_some (event_domain net w.name))
      (holds (is_valued net m w.name) w.at valued)))
      (holds (list_any (shows w.name) row.conds) w.at shown)

  act_shown : (row : RawRow) (act : RawAct) → IsSoundAct net m row act
      → has_present (map (cond_of net m) row.conds) (act_of net m act).source ≡ true
  act_shown row (acts.Emit w None) s = refl
  act_shown row (acts.Emit w (Some (sources.Value v))) s = refl
  act_shown row (acts.Emit w (Some (sources.Input x))) s = input_shown row x s.input s.shown
  act_shown row (acts.Emit w (Some (sources.Add x n))) s = refl
  act_shown row (acts.Set w (sources.Value v)) s = refl
  act_shown row (acts.Set w (sources.Input x)) s = input_shown row x s.input s.shown
  act_shown row (acts.Set w (sources.Add x n)) s = refl

  -- each input whose value is passed on is wanted present
  pub all_shown : (row : RawRow) (list : List RawAct) → Each (IsSoundAct net m row) list
      → list_all (λ (act : Act). has_present (map (cond_of net m) row.conds) act.source)
      (map (act_of net m) list) ≡ true
  all_shown row [] each = refl
  all_shown row (act ∷ list) each =
      let own = act_shown row act (each 0 act refl) in
      let rest = all_shown row list (λ i x at. each (suc i) x at) in
      λ i. own i && rest i
