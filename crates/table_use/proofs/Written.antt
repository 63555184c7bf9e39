-- Texts of items that are written one after another.
use Rattle.std.proofs.Common.{◌≡◌, ℕ, ◌+◌, ◌<◌, ◌≤◌, ◌⊎◌, inl, inr, Bool, true, false, cond, List, [], ◌∷◌, ◌++◌, length, min, drop, flat_map, slice_get, Some, refl, sym, ap, ◌∙◌, ⊎_elim, append_assoc, arith}
use Rattle.std.specs.List.{enumerate_from, zip}
use Rattle.std.proofs.lemmas.Bool.{cases_lt}
use Rattle.std.proofs.lemmas.List.{append-nil, drop_all}
use Rattle.polis_base.specs.Lists.{places_from}
use Rattle.journals.proofs.Emitted.{drop_at_item}

-- the text of one item more: what was written, with the text of the items from it on, was the
-- whole, and is so with that of the items after it
next : (now new one rest all : List ℕ) → new ≡ now ++ one → now ++ (one ++ rest) ≡ all
    → new ++ rest ≡ all
next now new one rest all made was =
    ap (λ (l : List ℕ). l ++ rest) made ∙ append_assoc now one rest ∙ was

-- nothing is left
whole : (now rest all : List ℕ) → rest ≡ [] → now ++ rest ≡ all → now ≡ all
whole now rest all none was =
    sym (append-nil now) ∙ ap (λ (l : List ℕ). now ++ l) (sym none) ∙ was

-- ---- items with their places

-- the texts of the items from place k on
abbrev pub numbered_from : {X : Type 0} → (ℕ × X → List ℕ) → ℕ → List X → List ℕ
numbered_from f k xs = flat_map f (enumerate_from k (drop k xs))

pub numbered_more : {X : Type 0} (f : ℕ × X → List ℕ) (xs : List X) (k : ℕ) (x : X)
    (now new all : List ℕ) → slice_get xs k ≡ Some x → new ≡ now ++ f (k, x)
    → now ++ numbered_from f k xs ≡ all → new ++ numbered_from f (k + 1) xs ≡ all
numbered_more {X} f xs k x now new all at made was =
    next now new (f (k, x)) (numbered_from f (k + 1) xs) all made
    (ap (λ (l : List X). now ++ flat_map f (enumerate_from k l)) (sym (drop_at_item xs k x at))
    ∙ was)

pub numbered_all : {X : Type 0} (f : ℕ × X → List ℕ) (xs : List X) (k : ℕ) (now all : List ℕ)
    → length xs ≤ k → now ++ numbered_from f k xs ≡ all → now ≡ all
numbered_all {X} f xs k now all end was =
    whole now (numbered_from f k xs) all
    (ap (λ (l : List X). flat_map f (enumerate_from k l)) (drop_all k xs end)) was

-- ---- items of two lists, side by side

-- the texts of the pairs from place k on
abbrev pub paired_from : {X Y : Type 0} → (X × Y → List ℕ) → ℕ → List X → List Y → List ℕ
paired_from f k xs ys = flat_map f (zip (drop k xs) (drop k ys))

pub paired_more : {X Y : Type 0} (f : X × Y → List ℕ) (xs : List X) (ys : List Y) (k : ℕ) (x : X)
    (y : Y) (now new all : List ℕ) → slice_get xs k ≡ Some x → slice_get ys k ≡ Some y
    → new ≡ now ++ f (x, y) → now ++ paired_from f k xs ys ≡ all
    → new ++ paired_from f (k + 1) xs ys ≡ all
paired_more {X} {Y} f xs ys k x y now new all at there made was =
    next now new (f (x, y)) (paired_from f (k + 1) xs ys) all made
    (ap (λ (l : List Y). now ++ flat_map f (zip (x ∷ drop (k + 1) xs) l))
    (sym (drop_at_item ys k y there))
    ∙ ap (λ (l : List X). now ++ flat_map f (zip l (drop k ys))) (sym (drop_at_item xs k x at))
    ∙ was)

zip_none : {X Y : Type 0} (xs : List X) (ys : List Y) → ys ≡ [] → zip xs ys ≡ []
zip_none [] ys none = refl
zip_none (x ∷ xs) [] none = refl
zip_none (x ∷ xs) (y ∷ ys) none = cc

pub paired_all : {X Y : Type 0} (f : X × Y → List ℕ) (xs : List X) (ys : List Y) (k : ℕ)
    (now all : List ℕ) → min (length xs) (length ys) ≤ k → now ++ paired_from f k xs ys ≡ all
    → now ≡ all
paired_all {X} {Y} f xs ys k now all end was =
    ⊎_elim few many (short (cases_lt k (length xs)))
  where
    short : ((k < length xs) ⊎ (length xs ≤ k)) → ((length xs ≤ k) ⊎ (length ys ≤ k))
    short (inl low) = inr (omega arith)
    short (inr high) = inl high

    few : length xs ≤ k → now ≡ all
    few high =
        whole now (paired_from f k xs ys) all
        (ap (λ (l : List X). flat_map f (zip l (drop k ys))) (drop_all k xs high)) was

    many : length ys ≤ k → now ≡ all
    many high =
        whole now (paired_from f k xs ys) all
        (ap (flat_map f) (zip_none (drop k xs) (drop k ys) (drop_all k ys high))) was

-- ---- the places of those that pass

-- the texts of the places from k on that pass
abbrev pub passing_from : {X : Type 0} → (ℕ → List ℕ) → (X → Bool) → ℕ → List X → List ℕ
passing_from f test k xs = flat_map f (places_from k test (drop k xs))

pub passing_more : {X : Type 0} (f : ℕ → List ℕ) (test : X → Bool) (xs : List X) (k : ℕ) (x : X)
    (now new all : List ℕ) → slice_get xs k ≡ Some x
    → new ≡ now ++ cond (test x) (flat_map f (k ∷ [])) []
    → now ++ passing_from f test k xs ≡ all → new ++ passing_from f test (k + 1) xs ≡ all
passing_more {X} f test xs k x now new all at made was =
    next now new (cond (test x) (flat_map f (k ∷ [])) []) (passing_from f test (k + 1) xs) all made
    (ap (λ (l : List ℕ). now ++ l)
    (sym (split (test x) (places_from (k + 1) test (drop (k + 1) xs))))
    ∙ ap (λ (l : List X). now ++ flat_map f (places_from k test l)) (sym (drop_at_item xs k x at))
    ∙ was)
  where
    split : (b : Bool) (rest : List ℕ)
        → flat_map f (cond b (k ∷ rest) rest) ≡ cond b (flat_map f (k ∷ [])) [] ++ flat_map f rest
    split true rest = ap (λ (l : List ℕ). l ++ flat_map f rest) (sym (append-nil (f k)))
    split false rest = refl

pub passing_all : {X : Type 0} (f : ℕ → List ℕ) (test : X → Bool) (xs : List X) (k : ℕ)
    (now all : List ℕ) → length xs ≤ k → now ++ passing_from f test k xs ≡ all → now ≡ all
passing_all {X} f test xs k now all end was =
    whole now (passing_from f test k xs) all
    (ap (λ (l : List X). flat_map f (places_from k test l)) (drop_all k xs end)) was
