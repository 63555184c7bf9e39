-- Names and values that are found by their words.
use Rattle.std.proofs.Common.{◌≡◌, ◌<◌, ℕ, zero, suc, true, false, not, ◌&&◌, nat_le, List, [], ◌∷◌, map, length, Some, arith, slice_get}
use Rattle.std.specs.Prelude.{option_map, unwrap_or}
use Rattle.std.specs.List.{find, list_any}
use Rattle.std.proofs.lemmas.Bool.{and_parts, ltb-true, leb-true, not-true}
use Rattle.polis_base.specs.Lists.{upto}
use Rattle.polis_base.proofs.Found.{find_only, find_is}
use Rattle.domains.specs.Names.{is_same, are_distinct}
use Rattle.domains.specs.Domains.{size_of, word_of, IsDomain, WordsDiffer}
use Rattle.domains.specs.declared.domain.Domain.{Domain}
use Rattle.domains.specs.declared.domain.Domain.TheVariants.{Names, Range}
use Rattle.journals.specs.ValueWords.{value_named}
use Rattle.journal_text.specs.Holding.{values_hold}
use Rattle.domains.proofs.Names.{same_texts, same_self, texts_differ}
use Rattle.polis_base.proofs.Bools.{neither_first, neither_second}

-- the text of the thing at a place
abbrev pub text_at : {X : Type 0} → (X → List ℕ) → List X → ℕ → List ℕ
text_at f xs k = unwrap_or (option_map f (slice_get xs k)) []

other_name : {X : Type 0} (f : X → List ℕ) (name : List ℕ) (xs : List X) (k : ℕ)
    → list_any (is_same name) (map f xs) ≡ false → k < length xs
    → is_same name (text_at f xs k) ≡ false
other_name f name [] k none below = absurd (omega arith)
other_name f name (x ∷ xs) zero none below = neither_first (is_same name (f x)) _ none
other_name f name (x ∷ xs) (suc k) none below =
    other_name f name xs k (neither_second (is_same name (f x)) _ none) (omega arith)

-- distinct names differ
pub names_differ : {X : Type 0} (f : X → List ℕ) (xs : List X) (j k : ℕ)
    → are_distinct (map f xs) ≡ true → j < k → k < length xs
    → is_same (text_at f xs j) (text_at f xs k) ≡ false
names_differ f [] j k distinct before below = absurd (omega arith)
names_differ f (x ∷ xs) j zero distinct before below = absurd (omega arith)
names_differ f (x ∷ xs) zero (suc k) distinct before below =
    other_name f (f x) xs k
    (not-true _ (and_parts (not (list_any (is_same (f x)) (map f xs))) _ distinct).0) (omega arith)
names_differ f (x ∷ xs) (suc j) (suc k) distinct before below =
    names_differ f xs j k (and_parts (not (list_any (is_same (f x)) (map f xs))) _ distinct).1
    (omega arith) (omega arith)

-- each is found by its name
pub found_by_name : {X : Type 0} (f : X → List ℕ) (xs : List X) (k : ℕ)
    → are_distinct (map f xs) ≡ true → k < length xs
    → find (λ j. is_same (text_at f xs j) (text_at f xs k)) (upto (length xs)) ≡ Some k
found_by_name f xs k distinct below =
    find_only (λ j. is_same (text_at f xs j) (text_at f xs k)) (length xs) k below
    (same_self (text_at f xs k)) (λ j before. names_differ f xs j k distinct before below)

-- what is found has the name
pub has_found_name : {X : Type 0} (f : X → List ℕ) (xs : List X) (word : List ℕ) (k : ℕ)
    → find (λ j. is_same (text_at f xs j) word) (upto (length xs)) ≡ Some k
    → (k < length xs) × (text_at f xs k ≡ word)
has_found_name f xs word k h =
    let r = find_is (λ j. is_same (text_at f xs j) word) (length xs) k h in
    (r.0, same_texts _ _ r.1)

-- the domain is one
pub is_domain : (d : Domain) → values_hold d ≡ true → IsDomain d
is_domain (Names names) h =
    let a = and_parts (nat_le 1 (length names) && nat_le (length names) 32
    && are_distinct names) _ h in
    let b = and_parts (nat_le 1 (length names) && nat_le (length names) 32) _ a.0 in
    let c = and_parts (nat_le 1 (length names)) _ b.0 in
    record { some = leb-true _ _ c.0; few = leb-true _ _ c.1; distinct = b.1 }
is_domain (Range span) h = ltb-true _ _ h

-- a value is found by its word
pub value_found : WordsDiffer → (d : Domain) (v : ℕ) → values_hold d ≡ true → v < size_of d
    → value_named (word_of d v) d ≡ Some v
value_found differ d v holds below =
    find_only (λ u. is_same (word_of d u) (word_of d v)) (size_of d) v below
    (same_self (word_of d v))
    (λ u before. texts_differ (word_of d u) (word_of d v) (λ same.
    let e = differ d u v (is_domain d holds) (omega arith) below same in
    omega arith))

-- a value that is found has the word
pub value_has : (d : Domain) (word : List ℕ) (v : ℕ) → value_named word d ≡ Some v
    → (v < size_of d) × (word_of d v ≡ word)
value_has d word v h =
    let r = find_is (λ u. is_same (word_of d u) word) (size_of d) v h in
    (r.0, same_texts _ _ r.1)
