-- Items of a list that pass a test: all, some, those that are kept, and how many.
use Rattle.std.proofs.Common.{Bool, List, Some, [], ap, arith, cond, count_by, false, filter, flat_map, get_or, length, map, nat_lt, refl, slice_get, subst, suc, sym, true, zero, ℕ, ◌++◌, ◌+◌, ◌<◌, ◌||◌, ◌∙◌, ◌∷◌, ◌≡◌}
use Rattle.std.proofs.lemmas.Bool.{and_from, and_parts, ltb-true}
use Rattle.std.proofs.lemmas.List.Folds.{list_any-append}
use Rattle.std.proofs.lemmas.List.Sums.{sum_by-append}
use Rattle.std.specs.List.{list_all, list_any}
use Rattle.polis_base.specs.Lists.{last_of, upto}

pub filter_append : {X : Type 0} (p : X → Bool) (xs ys : List X)
    → filter p (xs ++ ys) ≡ filter p xs ++ filter p ys
filter_append p [] ys = refl
filter_append {X = X} p (x ∷ xs) ys =
    ap (λ (zs : List X). cond (p x) (x ∷ zs) zs) (filter_append p xs ys) ∙ both (p x)
  where
    both : (b : Bool) → cond b (x ∷ (filter p xs ++ filter p ys)) (filter p xs ++ filter p ys)
        ≡ cond b (x ∷ filter p xs) (filter p xs) ++ filter p ys
    both true = refl
    both false = refl

pub all_get_or : {X : Type 0} (t : X → Bool) (xs : List X) (i : ℕ) (d : X) → list_all t xs ≡ true
    → i < length xs → t (get_or xs i d) ≡ true
all_get_or t [] i d h below = absurd (omega arith)
all_get_or t (x ∷ xs) zero d h below = (and_parts (t x) (list_all t xs) h).0
all_get_or t (x ∷ xs) (suc i) d h below =
    all_get_or t xs i d (and_parts (t x) (list_all t xs) h).1 (omega arith)

pub any_same_below : (p q : ℕ → Bool) (n : ℕ) → ((k : ℕ) → k < n → p k ≡ q k)
    → list_any p (upto n) ≡ list_any q (upto n)
any_same_below p q zero same = refl
any_same_below p q (suc n) same =
    list_any-append p (upto n) (n ∷ [])
    ∙ ap (λ (b : Bool). b || (p n || false)) (any_same_below p q n (λ k low. same k (omega arith)))
    ∙ ap (λ (b : Bool). list_any q (upto n) || (b || false)) (same n (omega arith))
    ∙ sym (list_any-append q (upto n) (n ∷ []))

pub any_of_flat_map : {X Y : Type 0} (p : Y → Bool) (f : X → List Y) (xs : List X)
    → list_any p (flat_map f xs) ≡ list_any (λ x. list_any p (f x)) xs
any_of_flat_map p f [] = refl
any_of_flat_map p f (x ∷ xs) =
    list_any-append p (f x) (flat_map f xs)
    ∙ ap (λ t. list_any p (f x) || t) (any_of_flat_map p f xs)

pub any_of_map : {X Y : Type 0} (p : Y → Bool) (f : X → Y) (xs : List X)
    → list_any p (map f xs) ≡ list_any (λ x. p (f x)) xs
any_of_map p f [] = refl
any_of_map p f (x ∷ xs) = ap (λ t. p (f x) || t) (any_of_map p f xs)

pub count_append : {X : Type 0} (p : X → Bool) (xs ys : List X)
    → count_by p (xs ++ ys) ≡ count_by p xs + count_by p ys
count_append p xs ys = sum_by-append (λ x. cond (p x) 1 0) xs ys

pub all_get : {X : Type 0} (p : X → Bool) (xs : List X) (i : ℕ) (x : X) → list_all p xs ≡ true
    → slice_get xs i ≡ Some x → p x ≡ true
all_get p [] i x h e = cc
all_get p (y ∷ xs) zero x h e = let same : y ≡ x =
    cc in subst (λ z. p z ≡ true) same (and_parts (p y) (list_all p xs) h).0
all_get p (y ∷ xs) (suc i) x h e =
    all_get p xs i x (and_parts (p y) (list_all p xs) h).1 e

pub last_below : (n d : ℕ) (xs : List ℕ) → d < n → list_all (λ x. nat_lt x n) xs ≡ true
    → last_of d xs < n
last_below n d [] h all = h
last_below n d (x ∷ xs) h all =
    let parts = and_parts (nat_lt x n) (list_all (λ x. nat_lt x n) xs) all in
    last_below n x xs (ltb-true x n parts.0) parts.1

pub any_same : {X : Type 0} (p q : X → Bool) (xs : List X) → ((x : X) → p x ≡ q x)
    → list_any p xs ≡ list_any q xs
any_same p q [] same = refl
any_same p q (x ∷ xs) same = λ j. same x j || any_same p q xs same j

pub all_filtered : {X : Type 0} (p q : X → Bool) (xs : List X) → list_all p xs ≡ true
    → list_all p (filter q xs) ≡ true
all_filtered p q [] h = refl
all_filtered p q (x ∷ xs) h =
    let parts = and_parts (p x) (list_all p xs) h in
    let rest = all_filtered p q xs parts.1 in
    elim (q x) as (λ b. list_all p (cond b (x ∷ filter q xs) (filter q xs)) ≡ true) [
      | true ↦ and_from (p x) (list_all p (filter q xs)) parts.0 rest
      | false ↦ rest
    ]
