-- How many values domains have, and how many codes variables have, where no rule is broken.
use Rattle.std.proofs.Common.{◌≡◌, ◌∙◌, ◌≤◌, ℕ, zero, suc, Bool, true, false, cond, ◌||◌, nat_le, min, List, [], ◌∷◌, ◌++◌, map, flat_map, find, option_to_list, Option, Some, None, is_some, unwrap_or, subst, ap, sym, true≢false, arith}
use Rattle.std.specs.Option.{option_map, option_and_then}
use Rattle.std.specs.List.{list_all}
use Rattle.std.proofs.lemmas.Grind.{flat_map-append}
use Rattle.domains.specs.Names.{is_same}
use Rattle.net_reader.specs.declared.raw.Word.{Word}
use Rattle.net_reader.specs.declared.raw.RawShape.{RawShape}
use Rattle.net_reader.specs.declared.raw.RawDomain.{RawDomain}
use Rattle.net_reader.specs.declared.raw.RawEvent.{RawEvent}
use Rattle.net_reader.specs.declared.raw.RawNet.{RawNet}
use Rattle.net_names.specs.Places.{unless}
use Rattle.net_names.specs.Numbers.{names_of, is_among, is_name_of, missing}
use Rattle.net_names.specs.Values.{count_of}
use Rattle.net_names.specs.Scopes.{domain_words, shape_of, event_domain, count_at, event_codes}
use Rattle.net_rules.specs.inner.Sound.{has_count, Each, IsSound}
use Rattle.net_rules.proofs.HasReceivers.{first_nil, rest_nil, holds}
use Rattle.std.proofs.lemmas.Bool.{leb-true}
use Rattle.polis_base.proofs.Bools.{and_first, and_second}
use Rattle.polis_base.proofs.Places.{some_is}

abbrev pub InRange : ℕ → Type 0
InRange n = (1 ≤ n) × (n ≤ 32)

-- of a test for each item
pub each_all : {X : Type 0} (test : X → Bool) (xs : List X) → list_all test xs ≡ true
    → Each (λ x. test x ≡ true) xs
each_all test [] all i x at = absurd (true≢false (sym (ap is_some at)))
each_all test (y ∷ xs) all zero x at =
    subst (λ z. test z ≡ true) (some_is y x at) (and_first (test y) (list_all test xs) all)
each_all test (y ∷ xs) all (suc i) x at =
    each_all test xs (and_second (test y) (list_all test xs) all) i x at

-- of places that no item has
pub each_nil : {X : Type 0} (f : X → List ℕ) (xs : List X) → flat_map f xs ≡ []
    → Each (λ x. f x ≡ []) xs
each_nil f [] none i x at = absurd (true≢false (sym (ap is_some at)))
each_nil f (y ∷ xs) none zero x at =
    subst (λ z. f z ≡ []) (some_is y x at) (first_nil (f y) (flat_map f xs) none)
each_nil f (y ∷ xs) none (suc i) x at = each_nil f xs (rest_nil (f y) (flat_map f xs) none) i x at

pub count_in : (d : RawDomain) → has_count d ≡ true → InRange (count_of d.shape)
count_in d h = (
  leb-true 1 (count_of d.shape)
      (and_first (nat_le 1 (count_of d.shape)) (nat_le (count_of d.shape) 32) h),
  leb-true (count_of d.shape) 32
      (and_second (nat_le 1 (count_of d.shape)) (nat_le (count_of d.shape) 32) h),
)

-- a domain that is found has 1 to 32 values
found_in : (name : List ℕ) (ds : List RawDomain) (shape : RawShape) → list_all has_count ds ≡ true
    → option_map (λ (d : RawDomain). d.shape)
    (find (λ (d : RawDomain). is_same name d.name.name) ds) ≡ Some shape → InRange (count_of shape)
found_in name [] shape all h = absurd (true≢false (sym (ap is_some h)))
found_in name (d ∷ ds) shape all h =
    by (is_same name d.name.name) h
    (found_in name ds shape (and_second (has_count d) (list_all has_count ds) all))
  where
    by : (b : Bool)
        → option_map (λ (d : RawDomain). d.shape)
        (cond b (Some d) (find (λ (d : RawDomain). is_same name d.name.name) ds)) ≡ Some shape
        → (option_map (λ (d : RawDomain). d.shape)
        (find (λ (d : RawDomain). is_same name d.name.name) ds) ≡ Some shape
        → InRange (count_of shape)) → InRange (count_of shape)
    by true h rest =
        subst (λ s. InRange (count_of s)) (some_is d.shape shape h)
        (count_in d (and_first (has_count d) (list_all has_count ds) all))
    by false h rest = rest h

pub shape_in : (net : RawNet) (name : List ℕ) (shape : RawShape) → IsSound net
    → shape_of net name ≡ Some shape → InRange (count_of shape)
shape_in net name shape s h = found_in name net.domains shape s.counts h

-- a name that is declared has a domain
declared_in : (name : List ℕ) (ds : List RawDomain) → list_all has_count ds ≡ true
    → is_among (names_of (map (λ (d : RawDomain). d.name) ds)) name ≡ true
    → InRange (unwrap_or
    (option_map count_of
    (option_map (λ (d : RawDomain). d.shape)
    (find (λ (d : RawDomain). is_same name d.name.name) ds))) 0)
declared_in name [] all there = absurd (true≢false (sym there))
declared_in name (d ∷ ds) all there =
    by (is_same name d.name.name) there
    (declared_in name ds (and_second (has_count d) (list_all has_count ds) all))
  where
    by : (b : Bool) → (b || is_among (names_of (map (λ (d : RawDomain). d.name) ds)) name) ≡ true
        → (is_among (names_of (map (λ (d : RawDomain). d.name) ds)) name ≡ true
        → InRange (unwrap_or
        (option_map count_of
        (option_map (λ (d : RawDomain). d.shape)
        (find (λ (d : RawDomain). is_same name d.name.name) ds))) 0))
        → InRange (unwrap_or
        (option_map count_of
        (option_map (λ (d : RawDomain). d.shape)
        (cond b (Some d) (find (λ (d : RawDomain). is_same name d.name.name) ds)))) 0)
    by true h rest = count_in d (and_first (has_count d) (list_all has_count ds) all)
    by false h rest = rest h

pub state_in : (net : RawNet) (w : Word) → IsSound net → is_name_of (domain_words net) w.name ≡ true
    → InRange (count_at net (Some w))
state_in net w s there = declared_in w.name net.domains s.counts there

module _ (net : RawNet) (sound : IsSound net) where
  one_in : InRange 1
  one_in = (omega arith, omega arith)

  word_in : (o : Option Word) → missing (is_name_of (domain_words net)) (option_to_list o) ≡ []
      → InRange (count_at net o)
  word_in None none = one_in
  word_in (Some w) none =
      state_in net w sound
      (holds (is_name_of (domain_words net) w.name) w.at
      (first_nil (unless (is_name_of (domain_words net) w.name) w.at) [] none))

  used_in : (name : List ℕ) (es : List RawEvent)
      → missing (is_name_of (domain_words net))
      (flat_map (λ (e : RawEvent). option_to_list e.domain) es) ≡ []
      → InRange (count_at net
      (option_and_then (λ (e : RawEvent). e.domain)
      (find (λ (e : RawEvent). is_same name e.name.name) es)))
  used_in name [] none = one_in
  used_in name (e ∷ es) none =
      by (is_same name e.name.name)
      (used_in name es
      (rest_nil (missing (is_name_of (domain_words net)) (option_to_list e.domain))
      (missing (is_name_of (domain_words net))
      (flat_map (λ (e : RawEvent). option_to_list e.domain) es)) split))
    where
      split : missing (is_name_of (domain_words net)) (option_to_list e.domain)
          ++ missing (is_name_of (domain_words net))
          (flat_map (λ (e : RawEvent). option_to_list e.domain) es) ≡ []
      split = sym (flat_map-append
          (λ (word : Word). unless (is_name_of (domain_words net) word.name) word.at)
          (option_to_list e.domain)
          (flat_map (λ (e : RawEvent). option_to_list e.domain) es)) ∙ none

      by : (b : Bool)
          → InRange (count_at net
          (option_and_then (λ (e : RawEvent). e.domain)
          (find (λ (e : RawEvent). is_same name e.name.name) es)))
          → InRange (count_at net
          (option_and_then (λ (e : RawEvent). e.domain)
          (cond b (Some e) (find (λ (e : RawEvent). is_same name e.name.name) es))))
      by true rest = word_in e.domain
          (first_nil (missing (is_name_of (domain_words net)) (option_to_list e.domain))
          (missing (is_name_of (domain_words net))
          (flat_map (λ (e : RawEvent). option_to_list e.domain) es)) split)
      by false rest = rest

  pub event_in : (name : List ℕ) → InRange (count_at net (event_domain net name))
  event_in name = used_in name net.events sound.events

  pub event_some : (w : Word) → 2 ≤ event_codes net w
  event_some w = omega (arith, (event_in w.name).0)

  pub event_few : (w : Word) → event_codes net w ≤ 33
  event_few w = omega (arith, (event_in w.name).1)

-- what was counted up to a bound that isn't reached
pub under_cap : (x n : ℕ) → x ≡ min 65537 n → n ≤ 33 → x ≡ n
under_cap x n e h = grind (arith, e, h)

pub state_few : (net : RawNet) (w : Word) → IsSound net
    → is_name_of (domain_words net) w.name ≡ true → count_at net (Some w) ≤ 33
state_few net w s there = omega (arith, (state_in net w s there).1)
