-- No event has two senders.
use Rattle.std.proofs.Common.{◌≡◌, ◌∙◌, ℕ, ◌+◌, Bool, true, false, cond, not, ◌||◌, List, [], ◌∷◌, ◌++◌, flat_map, refl, ap, sym, true≢false}
use Rattle.std.proofs.lemmas.List.{map-append}
use Rattle.std.specs.List.{list_any}
use Rattle.std.specs.Cmp.Lexicographic.{nat_list_eq_equiv}
use Rattle.polis_base.specs.Lists.{places_from}
use Rattle.domains.specs.Names.{is_same, are_distinct}
use Rattle.transition_table.specs.NetworkFacts.{senders}
use Rattle.net_reader.specs.declared.raw.Word.{Word}
use Rattle.net_reader.specs.declared.raw.RawMachine.{RawMachine}
use Rattle.net_reader.specs.declared.raw.RawNet.{RawNet}
use Rattle.net_names.specs.Numbers.{names_of, is_among, is_name_of}
use Rattle.net_rules.specs.Networks.{party_of, machines_with}
use Rattle.net_names.specs.Scopes.{all_outputs, is_from_env}
use Rattle.rule_judge.specs.Rules.{rule_11, events_where}
use Rattle.net_rules.proofs.HasReceivers.{fresh}
use Rattle.std.proofs.lemmas.Bool.{not-true}
use Rattle.polis_base.proofs.Bools.{and_first, and_second, neither_first, neither_second}

any_append : (p : List ℕ → Bool) (xs ys : List (List ℕ))
    → list_any p (xs ++ ys) ≡ (list_any p xs || list_any p ys)
any_append p [] ys = refl
any_append p (x ∷ xs) ys = ap (λ b. p x || b) (any_append p xs ys)
    ∙ grouped (p x) (list_any p xs) (list_any p ys)
  where
    grouped : (a b c : Bool) → (a || (b || c)) ≡ ((a || b) || c)
    grouped true b c = refl
    grouped false b c = refl

same_any : (n x : List ℕ) → is_same n x ≡ true → (ys : List (List ℕ))
    → list_any (is_same n) ys ≡ list_any (is_same x) ys
same_any n x same [] = refl
same_any n x same (y ∷ ys) = λ i. nat_list_eq_equiv.congr n x y same i || same_any n x same ys i

distinct_rest : (xs ys : List (List ℕ)) → are_distinct (xs ++ ys) ≡ true → are_distinct ys ≡ true
distinct_rest [] ys h = h
distinct_rest (x ∷ xs) ys h =
    distinct_rest xs ys
    (and_second (not (list_any (is_same x) (xs ++ ys))) (are_distinct (xs ++ ys)) h)

distinct_apart : (xs ys : List (List ℕ)) (n : List ℕ) → are_distinct (xs ++ ys) ≡ true
    → is_among xs n ≡ true → is_among ys n ≡ false
distinct_apart [] ys n h there = absurd (true≢false (sym there))
distinct_apart (x ∷ xs) ys n h there =
    by (is_same n x) refl there
    (distinct_apart xs ys n
    (and_second (not (list_any (is_same x) (xs ++ ys))) (are_distinct (xs ++ ys)) h))
  where
    behind : list_any (is_same x) ys ≡ false
    behind = neither_second (list_any (is_same x) xs) (list_any (is_same x) ys)
        (sym (any_append (is_same x) xs ys)
        ∙ not-true (list_any (is_same x) (xs ++ ys))
        (and_first (not (list_any (is_same x) (xs ++ ys))) (are_distinct (xs ++ ys)) h))

    by : (b : Bool) → is_same n x ≡ b → (b || is_among xs n) ≡ true
        → (is_among xs n ≡ true → is_among ys n ≡ false) → is_among ys n ≡ false
    by true same h rest = same_any n x same ys ∙ behind
    by false other h rest = rest h

module _ (list : RawMachine → List Word) (n : List ℕ) where
  has_it : RawMachine → Bool
  has_it m = is_name_of (list m) n

  split : (m : RawMachine) (ms : List RawMachine)
      → names_of (flat_map list (m ∷ ms)) ≡ names_of (list m) ++ names_of (flat_map list ms)
  split m ms = map-append (λ (w : Word). w.name) (list m) (flat_map list ms)

  -- a name of no list has no place
  none_there : (k : ℕ) (ms : List RawMachine) → is_name_of (flat_map list ms) n ≡ false
      → places_from k (λ m. is_name_of (list m) n) ms ≡ []
  none_there k [] h = refl
  none_there k (m ∷ ms) h =
      let both = sym (any_append (is_same n) (names_of (list m)) (names_of (flat_map list ms)))
      ∙ ap (λ l. list_any (is_same n) l) (sym (split m ms)) ∙ h in
      let own = neither_first (is_name_of (list m) n) (is_name_of (flat_map list ms) n) both in
      let rest = none_there (k + 1) ms
      (neither_second (is_name_of (list m) n) (is_name_of (flat_map list ms) n) both) in
      λ i. cond (own i) (k ∷ rest i) (rest i)

  -- where no name repeats, the first machine is the only one
  pub one_sender : (k : ℕ) (ms : List RawMachine)
      → are_distinct (names_of (flat_map list ms)) ≡ true
      → senders (party_of (places_from k (λ m. is_name_of (list m) n) ms))
      ≡ places_from k (λ m. is_name_of (list m) n) ms
  one_sender k [] h = refl
  one_sender k (m ∷ ms) h =
      by (is_name_of (list m) n) refl
      (one_sender (k + 1) ms
      (distinct_rest (names_of (list m)) (names_of (flat_map list ms)) apart))
    where
      apart : are_distinct (names_of (list m) ++ names_of (flat_map list ms)) ≡ true
      apart = ap are_distinct (sym (split m ms)) ∙ h

      by : (b : Bool) → is_name_of (list m) n ≡ b
          → senders (party_of (places_from (k + 1) (λ m. is_name_of (list m) n) ms))
          ≡ places_from (k + 1) (λ m. is_name_of (list m) n) ms
          → senders (party_of
          (cond b (k ∷ places_from (k + 1) (λ m. is_name_of (list m) n) ms)
          (places_from (k + 1) (λ m. is_name_of (list m) n) ms)))
          ≡ cond b (k ∷ places_from (k + 1) (λ m. is_name_of (list m) n) ms)
          (places_from (k + 1) (λ m. is_name_of (list m) n) ms)
      by true there rest =
          ap (λ l. k ∷ l)
          (sym (none_there (k + 1) ms
          (distinct_apart (names_of (list m)) (names_of (flat_map list ms)) n apart there)))
      by false there rest = rest

-- rule 11 gives that an event's sender is the one machine that has it as an output
pub senders_kept : (raw : RawNet) (n : List ℕ) → rule_11 raw ≡ []
    → senders (party_of (machines_with (λ m. m.outputs) raw n))
    ≡ machines_with (λ m. m.outputs) raw n
senders_kept raw n eleven =
    one_sender (λ m. m.outputs) n 0 raw.machines
    (fresh (is_name_of (events_where (λ env. is_from_env env) raw)) (all_outputs raw)
    eleven).distinct
