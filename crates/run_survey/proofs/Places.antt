-- Counts and first places in two lists after each other.
use Rattle.std.proofs.Common.{◌≡◌, ℕ, suc, ◌+◌, ◌<◌, Bool, true, false, cond, not, ◌||◌, List, [], ◌∷◌, ◌++◌, length, count_by, bytes_eq, refl, sym, ap, ◌∙◌, zero-add, arith}
use Rattle.std.specs.List.{list_any, position_or_len}
use Rattle.std.proofs.lemmas.Bool.{false≢true, or_left, or_parts, or_right}
use Rattle.std.proofs.lemmas.List.Sums.{sum_by-cons}
use Rattle.run_survey.proofs.Texts.{itself}

-- ---- first places

pub position_in : {X : Type 0} (p : X → Bool) (xs ys : List X) → list_any p xs ≡ true
    → position_or_len p (xs ++ ys) ≡ position_or_len p xs
position_in p [] ys some = absurd (false≢true some)
position_in {X} p (x ∷ xs) ys some = cases (p x) some (position_in p xs ys)
  where
    cases : (b : Bool) → (b || list_any p xs) ≡ true
        → (list_any p xs ≡ true → position_or_len p (xs ++ ys) ≡ position_or_len p xs)
        → cond (not b) (1 + position_or_len p (xs ++ ys)) 0
        ≡ cond (not b) (1 + position_or_len p xs) 0
    cases true h next = refl
    cases false h next = ap (λ (n : ℕ). 1 + n) (next h)

pub position_out : {X : Type 0} (p : X → Bool) (xs ys : List X) → list_any p xs ≡ false
    → position_or_len p (xs ++ ys) ≡ length xs + position_or_len p ys
position_out p [] ys none = sym (zero-add (position_or_len p ys))
position_out {X} p (x ∷ xs) ys none =
    let parts = or_parts (p x) (list_any p xs) none in
    let rest = position_out p xs ys parts.1 in
    ap (λ (b : Bool). cond (not b) (1 + position_or_len p (xs ++ ys)) 0) parts.0
    ∙ (let e : 1 + position_or_len p (xs ++ ys) ≡ suc (length xs) + position_or_len p ys =
    omega arith in e)

-- ---- counts

pub count_next : {X : Type 0} (p : X → Bool) (x : X) (xs : List X)
    → count_by p (x ∷ xs) ≡ cond (p x) 1 0 + count_by p xs
count_next {X} p x xs = sum_by-cons (λ (y : X). cond (p y) 1 0) x xs

pub count_none : {X : Type 0} (p : X → Bool) (xs : List X) → list_any p xs ≡ false
    → count_by p xs ≡ 0
count_none p [] none = refl
count_none p (x ∷ xs) none =
    let parts = or_parts (p x) (list_any p xs) none in
    let rest = count_none p xs parts.1 in
    count_next p x xs
    ∙ ap (λ (b : Bool). cond b 1 0 + count_by p xs) parts.0
    ∙ (let e : 0 + count_by p xs ≡ 0 = omega arith in e)

pub count_some : {X : Type 0} (p : X → Bool) (xs : List X) → list_any p xs ≡ true
    → 0 < count_by p xs
count_some p [] some = absurd (false≢true some)
count_some {X} p (x ∷ xs) some = cases (p x) some (count_next p x xs) (count_some p xs)
  where
    cases : (b : Bool) → (b || list_any p xs) ≡ true
        → count_by p (x ∷ xs) ≡ cond b 1 0 + count_by p xs
        → (list_any p xs ≡ true → 0 < count_by p xs) → 0 < count_by p (x ∷ xs)
    cases true h is rest = omega arith
    cases false h is rest = let more = rest h in omega arith

-- tests that agree at each text of the list
pub count_same : (p q : List ℕ → Bool) (texts : List (List ℕ))
    → ((t : List ℕ) → list_any (bytes_eq t) texts ≡ true → p t ≡ q t)
    → count_by p texts ≡ count_by q texts
count_same p q [] same = refl
count_same p q (t ∷ texts) same =
    count_next p t texts
    ∙ ap (λ (b : Bool). cond b 1 0 + count_by p texts)
    (same t (or_left (bytes_eq t t) (list_any (bytes_eq t) texts) (itself t)))
    ∙ ap (λ (n : ℕ). cond (q t) 1 0 + n)
    (count_same p q texts (λ u there.
    same u (or_right (bytes_eq u t) (list_any (bytes_eq u) texts) there)))
    ∙ sym (count_next q t texts)

-- what passes one of two tests that nothing passes both of
pub count_either : {X : Type 0} (p q r : X → Bool) → ((x : X) → r x ≡ (p x || q x))
    → ((x : X) → p x ≡ true → q x ≡ false) → (xs : List X)
    → count_by r xs ≡ count_by p xs + count_by q xs
count_either p q r either apart [] = refl
count_either {X} p q r either apart (x ∷ xs) =
    let rest = count_either p q r either apart xs in
    let all = count_next r x xs in
    let one = count_next p x xs in
    let other = count_next q x xs in
    let here = ap (λ (b : Bool). cond b 1 0) (either x) ∙ cases (p x) (q x) (apart x) in
    omega arith
  where
    cases : (a b : Bool) → (a ≡ true → b ≡ false)
        → cond (a || b) 1 0 ≡ cond a 1 0 + cond b 1 0
    cases true true h = absurd (false≢true (sym (h refl)))
    cases true false h = refl
    cases false b h = sym (zero-add (cond b 1 0))
