-- Lists joined, items that pass a test, and the numbers below another that do.
use Rattle.std.proofs.Common.{◌≡◌, ⊎_elim, ℕ, zero, suc, ◌<◌, ◌≤◌, Bool, true, false, cond, not, nat_lt, List, [], ◌∷◌, ◌++◌, filter, length, take, drop, refl, ap, sym, ◌∙◌, arith}
use Rattle.std.specs.List.{list_all, list_any}
use Rattle.std.proofs.lemmas.Bool.{and_parts, and_from, cases_lt, lt-ltb, not-true, or_cases, or_parts, false≢true}
use Rattle.std.proofs.lemmas.List.Elements.{filter-append}
use Rattle.polis_base.specs.Lists.{upto}

-- ---- two lists after each other
pub take_prefix : {X : Type 0} (xs ys : List X) (n : ℕ) → n ≡ length xs → take n (xs ++ ys) ≡ xs
take_prefix [] ys zero e = refl
take_prefix [] ys (suc n) e = absurd (omega arith)
take_prefix (x ∷ xs) ys zero e = absurd (omega arith)
take_prefix {X = X} (x ∷ xs) ys (suc n) e =
    ap (λ (zs : List X). x ∷ zs) (take_prefix xs ys n (omega arith))

pub drop_prefix : {X : Type 0} (xs ys : List X) (n : ℕ) → n ≡ length xs → drop n (xs ++ ys) ≡ ys
drop_prefix [] ys zero e = refl
drop_prefix [] ys (suc n) e = absurd (omega arith)
drop_prefix (x ∷ xs) ys zero e = absurd (omega arith)
drop_prefix (x ∷ xs) ys (suc n) e = drop_prefix xs ys n (omega arith)

-- ---- items that pass
pub all_parts : {X : Type 0} (p : X → Bool) (xs ys : List X) → list_all p (xs ++ ys) ≡ true
    → (list_all p xs ≡ true) × (list_all p ys ≡ true)
all_parts p [] ys h = (refl, h)
all_parts p (x ∷ xs) ys h =
    let parts = and_parts (p x) (list_all p (xs ++ ys)) h in
    let rest = all_parts p xs ys parts.1 in
    (and_from (p x) (list_all p xs) parts.0 rest.0, rest.1)

pub all_append : {X : Type 0} (p : X → Bool) (xs ys : List X) → list_all p xs ≡ true
    → list_all p ys ≡ true → list_all p (xs ++ ys) ≡ true
all_append p [] ys prefix back = back
all_append p (x ∷ xs) ys prefix back =
    let parts = and_parts (p x) (list_all p xs) prefix in
    and_from (p x) (list_all p (xs ++ ys)) parts.0 (all_append p xs ys parts.1 back)

-- where none passes, each fails
pub none_all : {X : Type 0} (p : X → Bool) (xs : List X) → list_any p xs ≡ false
    → list_all (λ x. not (p x)) xs ≡ true
none_all p [] h = refl
none_all p (x ∷ xs) h =
    let parts = or_parts (p x) (list_any p xs) h in
    and_from (not (p x)) (list_all (λ x. not (p x)) xs) (ap not parts.0) (none_all p xs parts.1)

-- one of those that all pass p passes q too
pub some_item : {X : Type 0} (p q : X → Bool) (xs : List X) → list_all p xs ≡ true
    → list_any q xs ≡ true → (x : X) × (p x ≡ true) × (q x ≡ true)
some_item p q [] all any = absurd (false≢true any)
some_item p q (x ∷ xs) all any =
    let parts = and_parts (p x) (list_all p xs) all in
    ⊎_elim (λ here. (x, parts.0, here)) (λ later. some_item p q xs parts.1 later)
    (or_cases (q x) (list_any q xs) any)

-- ---- what holds below n
pub all_upto : (p : ℕ → Bool) (n : ℕ) → list_all p (upto n) ≡ true → (k : ℕ) → k < n → p k ≡ true
all_upto p zero h k low = absurd (omega arith)
all_upto p (suc n) h k low =
    let parts = all_parts p (upto n) (n ∷ []) h in
    ⊎_elim
    (λ less. all_upto p n parts.0 k less)
    (λ more. let e : k ≡ n = omega arith in ap p e ∙ (and_parts (p n) true parts.1).0)
    (cases_lt k n)

pub upto_all : (p : ℕ → Bool) (n : ℕ) → ((k : ℕ) → k < n → p k ≡ true) → list_all p (upto n) ≡ true
upto_all p zero h = refl
upto_all p (suc n) h =
    all_append p (upto n) (n ∷ []) (upto_all p n (λ k low. h k (omega arith)))
    (and_from (p n) true (h n (omega arith)) refl)

pub none_upto : (p : ℕ → Bool) (n : ℕ) → list_any p (upto n) ≡ false → (k : ℕ) → k < n
    → p k ≡ false
none_upto p n h k low = not-true (p k) (all_upto (λ x. not (p x)) n (none_all p (upto n) h) k low)

pub all_below : (n bound : ℕ) → n ≤ bound → list_all (λ k. nat_lt k bound) (upto n) ≡ true
all_below n bound h =
    upto_all (λ k. nat_lt k bound) n (λ k low. lt-ltb k bound (omega arith))

-- ---- the numbers below n that pass
pub one_more : (p : ℕ → Bool) (n : ℕ) → filter p (upto (suc n))
    ≡ filter p (upto n) ++ cond (p n) (n ∷ []) []
one_more p n = filter-append p (upto n) (n ∷ [])

pub same_below : (p q : ℕ → Bool) (n : ℕ) → ((k : ℕ) → k < n → p k ≡ q k)
    → filter p (upto n) ≡ filter q (upto n)
same_below p q zero h = refl
same_below p q (suc n) h =
    one_more p n
    ∙ ap (λ l. l ++ cond (p n) (n ∷ []) []) (same_below p q n (λ k b. h k (omega arith)))
    ∙ ap (λ b. filter q (upto n) ++ cond b (n ∷ []) []) (h n (omega arith))
    ∙ sym (one_more q n)

pub none_below : (p : ℕ → Bool) (n : ℕ) → ((k : ℕ) → k < n → p k ≡ false) → filter p (upto n) ≡ []
none_below p zero h = refl
none_below p (suc n) h =
    one_more p n
    ∙ ap (λ l. l ++ cond (p n) (n ∷ []) []) (none_below p n (λ k b. h k (omega arith)))
    ∙ ap (λ b. cond b (n ∷ []) []) (h n (omega arith))
