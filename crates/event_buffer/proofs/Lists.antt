-- Lists.
use Rattle.std.specs.Prelude.{◌≡◌, ℕ, zero, suc, ◌<◌, ◌≤◌, List, [], ◌∷◌, ◌++◌, take, drop, length, slice_get, slice_set, Some}
use Rattle.std.proofs.Common.{refl, ap, ◌∙◌, arith}
use Rattle.polis_base.specs.Lists.{head_of}

pub nothing_left : {X : Type 0} (xs : List X) → length xs ≡ 0 → xs ≡ []
nothing_left [] h = refl
nothing_left (x ∷ xs) h = absurd (omega arith)

-- ---- an item in the place of another

pub set_last :
    {X : Type 0} (xs : List X) (x y : X) → slice_set (xs ++ x ∷ []) (length xs) y ≡ xs ++ y ∷ []
set_last [] x y = refl
set_last (z ∷ xs) x y = ap (λ l. z ∷ l) (set_last xs x y)

pub set_within :
    {X : Type 0} (xs : List X) (k : ℕ) (x y : X)
    → k < length xs → slice_set (xs ++ x ∷ []) k y ≡ slice_set xs k y ++ x ∷ []
set_within [] k x y h = absurd (omega arith)
set_within (z ∷ xs) zero x y h = refl
set_within (z ∷ xs) (suc k) x y h = ap (λ l. z ∷ l) (set_within xs k x y (omega arith))

pub length_of_set :
    {X : Type 0} (xs : List X) (k : ℕ) (y : X) → length (slice_set xs k y) ≡ length xs
length_of_set [] k y = refl
length_of_set (z ∷ xs) zero y = refl
length_of_set (z ∷ xs) (suc k) y = ap suc (length_of_set xs k y)

pub get_of_set :
    {X : Type 0} (xs : List X) (k : ℕ) (y : X)
    → k < length xs → slice_get (slice_set xs k y) k ≡ Some y
get_of_set [] k y h = absurd (omega arith)
get_of_set (x ∷ xs) zero y h = refl
get_of_set (x ∷ xs) (suc k) y h = get_of_set xs k y (omega arith)

-- ---- the first items

pub take_within :
    {X : Type 0} (xs : List X) (k : ℕ) (x : X)
    → k ≤ length xs → take k (xs ++ x ∷ []) ≡ take k xs
take_within xs zero x h = refl
take_within [] (suc k) x h = absurd (omega arith)
take_within (z ∷ xs) (suc k) x h = ap (λ l. z ∷ l) (take_within xs k x (omega arith))

pub take_next :
    {X : Type 0} (xs : List X) (k : ℕ) (x : X)
    → slice_get xs k ≡ Some x → take (suc k) xs ≡ take k xs ++ x ∷ []
take_next [] k x h = absurd cc
take_next (z ∷ xs) zero x h = let same : z ≡ x = cc in ap (λ y. y ∷ []) same
take_next (z ∷ xs) (suc k) x h = ap (λ l. z ∷ l) (take_next xs k x h)

pub take_set_next :
    {X : Type 0} (xs : List X) (k : ℕ) (y : X)
    → k < length xs → take (suc k) (slice_set xs k y) ≡ take k xs ++ y ∷ []
take_set_next [] k y h = absurd (omega arith)
take_set_next (x ∷ xs) zero y h = refl
take_set_next (x ∷ xs) (suc k) y h = ap (λ l. x ∷ l) (take_set_next xs k y (omega arith))

-- ---- what is left

head_after : {X : Type 0} (xs : List X) (n : ℕ) → head_of (drop n xs) ≡ slice_get xs n
head_after [] zero = refl
head_after [] (suc n) = refl
head_after (y ∷ xs) zero = refl
head_after (y ∷ xs) (suc n) = head_after xs n

get_of_take :
    {X : Type 0} (xs : List X) (n k : ℕ) → k < n → slice_get (take n xs) k ≡ slice_get xs k
get_of_take xs zero k h = absurd (omega arith)
get_of_take [] (suc n) k h = refl
get_of_take (y ∷ xs) (suc n) zero h = refl
get_of_take (y ∷ xs) (suc n) (suc k) h = get_of_take xs n k (omega arith)

pub head_of_left :
    {X : Type 0} (xs : List X) (n k : ℕ) (x : X)
    → k < n → slice_get xs k ≡ Some x → head_of (drop k (take n xs)) ≡ Some x
head_of_left xs n k x h at = head_after (take n xs) k ∙ get_of_take xs n k h ∙ at

pub head_of_joined :
    {X : Type 0} (xs ys : List X) (n : ℕ)
    → n < length xs → head_of (drop n xs ++ ys) ≡ slice_get xs n
head_of_joined [] ys n h = absurd (omega arith)
head_of_joined (x ∷ xs) ys zero h = refl
head_of_joined (x ∷ xs) ys (suc n) h = head_of_joined xs ys n (omega arith)

pub drop_of_joined :
    {X : Type 0} (xs ys : List X) (n : ℕ)
    → n < length xs → drop 1 (drop n xs ++ ys) ≡ drop (suc n) xs ++ ys
drop_of_joined [] ys n h = absurd (omega arith)
drop_of_joined (x ∷ xs) ys zero h = refl
drop_of_joined (x ∷ xs) ys (suc n) h = drop_of_joined xs ys n (omega arith)

pub drop_at :
    {X : Type 0} (xs : List X) (i : ℕ) (x : X)
    → slice_get xs i ≡ Some x → drop i xs ≡ x ∷ drop (suc i) xs
drop_at [] i x h = absurd cc
drop_at (y ∷ xs) zero x h = let same : y ≡ x = cc in ap (λ z. z ∷ xs) same
drop_at (y ∷ xs) (suc i) x h = drop_at xs i x h

pub not_empty : {X : Type 0} (xs : List X) (x : X) → head_of xs ≡ Some x → xs ≡ [] → ⊥
not_empty [] x h e = cc
not_empty (y ∷ xs) x h e = cc
