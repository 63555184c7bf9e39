-- What a network keeps, from rules that aren't broken.
use Rattle.std.proofs.Common.{◌≡◌, ◌∙◌, ℕ, zero, suc, ◌+◌, Bool, true, false, not, ◌&&◌, ◌||◌, ◌==◌, List, [], ◌∷◌, ◌++◌, map, flat_map, slice_get, Some, is_some, refl, ap, sym, subst, true≢false, arith}
use Rattle.std.proofs.lemmas.Grind.{flat_map-append}
use Rattle.std.specs.List.{list_any, list_all, enumerate_from, AllZip}
use Rattle.std.specs.Cmp.Lexicographic.{nat_list_eq_equiv, pointwise}
use Rattle.domains.specs.Names.{is_same, are_distinct}
use Rattle.transition_table.specs.NetworkFacts.{has_receivers}
use Rattle.transition_table.specs.declared.machine.Machine.{Machine}
use Rattle.net_reader.specs.declared.raw.Word.{Word}
use Rattle.net_reader.specs.declared.raw.RawEvent.{RawEvent}
use Rattle.net_reader.specs.declared.raw.RawMachine.{RawMachine}
use Rattle.net_reader.specs.declared.raw.RawNet.{RawNet}
use Rattle.net_names.specs.Places.{unless}
use Rattle.net_names.specs.Numbers.{names_of, is_name_of, missing, repeated, no_name, number}
use Rattle.net_names.specs.Scopes.{domain_words, event_words, machine_words}
use Rattle.rule_judge.specs.Rules.{rule_3, rule_7}
use Rattle.net_rules.specs.Networks.{event_of, IsMachineOf}
use Rattle.net_rules.proofs.NumbersOfNames.{places_with}
use Rattle.std.proofs.lemmas.Bool.{not-true}
use Rattle.polis_base.proofs.Bools.{neither_first, neither_second}
use Rattle.polis_base.proofs.Places.{some_is}

is_nil : {A : Type 0} → List A → Bool
is_nil [] = true
is_nil (x ∷ xs) = false

pub first_nil : {A : Type 0} (xs ys : List A) → xs ++ ys ≡ [] → xs ≡ []
unfolding is_nil
first_nil [] ys h = refl
first_nil (x ∷ xs) ys h = absurd (true≢false (sym (ap is_nil h)))

pub rest_nil : {A : Type 0} (xs ys : List A) → xs ++ ys ≡ [] → ys ≡ []
unfolding is_nil
rest_nil [] ys h = h
rest_nil (x ∷ xs) ys h = absurd (true≢false (sym (ap is_nil h)))

pub holds : (b : Bool) (place : ℕ) → unless b place ≡ [] → b ≡ true
unfolding is_nil
holds true place h = refl
holds false place h = absurd (true≢false (sym (ap is_nil h)))

any_or : (p q : List ℕ → Bool) (names : List (List ℕ))
    → list_any (λ n. p n || q n) names ≡ (list_any p names || list_any q names)
any_or p q [] = refl
any_or p q (n ∷ names) = ap (λ b. (p n || q n) || b) (any_or p q names)
    ∙ swap (p n) (q n) (list_any p names) (list_any q names)
  where
    swap : (a b c d : Bool) → ((a || b) || (c || d)) ≡ ((a || c) || (b || d))
    swap true b c d = refl
    swap false true true d = refl
    swap false true false d = refl
    swap false false c d = refl

pub any_symm : (n : List ℕ) (names : List (List ℕ))
    → list_any (λ q. is_same q n) names ≡ list_any (is_same n) names
any_symm n [] = refl
any_symm n (m ∷ names) = λ i. nat_list_eq_equiv.symm m n i || any_symm n names i

-- where no word repeats, none has a taken name, and the names are distinct
pub record Fresh (taken : List ℕ → Bool) (words : List Word) : Type 0 where
  pub untaken : list_any taken (names_of words) ≡ false
  pub distinct : are_distinct (names_of words) ≡ true

pub fresh : (taken : List ℕ → Bool) (words : List Word) → repeated taken words ≡ []
    → Fresh taken words
fresh taken [] h = record { untaken = refl; distinct = refl }
fresh taken (w ∷ words) h =
    let own = not-true (taken w.name)
    (holds (not (taken w.name)) w.at
    (first_nil (unless (not (taken w.name)) w.at)
    (repeated (λ name. taken name || is_same name w.name) words) h)) in
    let rest = fresh (λ name. taken name || is_same name w.name) words
    (rest_nil (unless (not (taken w.name)) w.at)
    (repeated (λ name. taken name || is_same name w.name) words) h) in
    let both = sym (any_or taken (λ q. is_same q w.name) (names_of words)) ∙ rest.untaken in
    let other = sym (any_symm w.name (names_of words))
    ∙ neither_second (list_any taken (names_of words))
    (list_any (λ q. is_same q w.name) (names_of words)) both in
    record {
      untaken = λ i. or_two own
          (neither_first (list_any taken (names_of words))
          (list_any (λ q. is_same q w.name) (names_of words)) both) i;
      distinct = and_two (ap not other) rest.distinct;
    }
  where
    or_two : {a b : Bool} → a ≡ false → b ≡ false → (a || b) ≡ false
    or_two p q = λ i. p i || q i

    and_two : {a b : Bool} → a ≡ true → b ≡ true → (a && b) ≡ true
    and_two p q = λ i. p i && q i

-- each event passes a test with its number
pub enumerated : {A B : Type 0} (f : A → B) (test : ℕ × B → Bool) (xs : List A) (k : ℕ)
    → ((i : ℕ) (x : A) → slice_get xs i ≡ Some x → test (k + i, f x) ≡ true)
    → list_all test (enumerate_from k (map f xs)) ≡ true
enumerated f test [] k each = refl
enumerated f test (x ∷ xs) k each =
    let first : test (k, f x) ≡ true =
    subst (λ n. test (n, f x) ≡ true) (sum_zero k) (each 0 x refl) in
    let rest = enumerated f test xs (k + 1)
    (λ i y at. subst (λ n. test (n, f y) ≡ true) (sum_suc k i) (each (suc i) y at)) in
    λ i. first i && rest i
  where
    sum_zero : (k : ℕ) → k + 0 ≡ k
    sum_zero k = omega arith

    sum_suc : (k i : ℕ) → k + suc i ≡ k + 1 + i
    sum_suc k i = omega arith

pub name_at : (events : List RawEvent) (i : ℕ) (e : RawEvent) → slice_get events i ≡ Some e
    → slice_get (names_of (map (λ (x : RawEvent). x.name) events)) i ≡ Some e.name.name
name_at [] i e at = absurd (true≢false (sym (ap is_some at)))
name_at (x ∷ events) zero e at = ap (λ (o : RawEvent). Some o.name.name) (some_is x e at)
name_at (x ∷ events) (suc i) e at = name_at events i e at

inputs_numbered : (raw : RawNet) (rs : List RawMachine) (ms : List Machine)
    → AllZip (IsMachineOf raw) rs ms
    → flat_map (λ (m : RawMachine). missing (is_name_of (event_words raw))
    (m.inputs ++ m.outputs)) rs ≡ []
    → AllZip (λ r m. (m.inputs ≡ map (λ (w : Word). number (event_words raw) w.name) r.inputs)
    × (missing (is_name_of (event_words raw)) r.inputs ≡ [])) rs ms
inputs_numbered raw [] [] all none = all
inputs_numbered raw [] (m ∷ ms) all none = absurd all
inputs_numbered raw (r ∷ rs) [] all none = absurd all
inputs_numbered raw (r ∷ rs) (m ∷ ms) all none =
    let declared = is_name_of (event_words raw) in
    let own = first_nil (missing declared (r.inputs ++ r.outputs))
    (flat_map (λ (m : RawMachine). missing declared (m.inputs ++ m.outputs)) rs) none in
    let later = rest_nil (missing declared (r.inputs ++ r.outputs))
    (flat_map (λ (m : RawMachine). missing declared (m.inputs ++ m.outputs)) rs) none in
    let inputs = first_nil (missing declared r.inputs) (missing declared r.outputs)
    (sym (flat_map-append (λ (word : Word). unless (declared word.name) word.at) r.inputs
    r.outputs) ∙ own) in
    ((all.0.inputs, inputs), inputs_numbered raw rs ms all.1 later)

-- rules 3 and 7 give that the receivers are the machines with the number as an input
pub receivers_kept : (raw : RawNet) (machines : List Machine) → rule_3 raw ≡ [] → rule_7 raw ≡ []
    → AllZip (IsMachineOf raw) raw.machines machines
    → list_all (has_receivers machines) (enumerate_from 0 (map (event_of raw) raw.events)) ≡ true
receivers_kept raw machines three seven all =
    enumerated (event_of raw) (has_receivers machines) raw.events 0 each
  where
    events_once : repeated no_name (event_words raw) ≡ []
    events_once = rest_nil (repeated no_name (domain_words raw))
        (repeated no_name (event_words raw))
        (first_nil (repeated no_name (domain_words raw) ++ repeated no_name (event_words raw))
        (repeated no_name (machine_words raw)) three)

    each : (i : ℕ) (e : RawEvent) → slice_get raw.events i ≡ Some e
        → has_receivers machines (0 + i, event_of raw e) ≡ true
    each i e at =
        let same = places_with (event_words raw)
        (fresh no_name (event_words raw) events_once).distinct i e.name.name
        (name_at raw.events i e at) (λ r. r.inputs) (λ m. m.inputs) 0 raw.machines machines
        (inputs_numbered raw raw.machines machines all seven) in
        subst (λ n. has_receivers machines (n, event_of raw e) ≡ true) (zero_sum i)
        (ap (λ l. pointwise ◌==◌ (event_of raw e).receivers l) same
        ∙ nat_list_eq_equiv.refl (event_of raw e).receivers)
      where
        zero_sum : (i : ℕ) → i ≡ 0 + i
        zero_sum i = omega arith
