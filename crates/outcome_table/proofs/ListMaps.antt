-- Words on lists.
use Rattle.std.proofs.Common.{◌≡◌, ℕ, ◌+◌, ◌-◌, Bool, true, false, ◌&&◌, List, [], ◌∷◌, ◌++◌, map, flat_map, length, take, replicate, arith, refl, ap, ◌∙◌}
use Rattle.std.specs.List.{list_all}
use Rattle.std.proofs.lemmas.List.{map-append, take_all}

pub map_flat : {A B C : Type 0} (f : B → C) (g : A → List B) (xs : List A)
    → map f (flat_map g xs) ≡ flat_map (λ x. map f (g x)) xs
map_flat f g [] = refl
map_flat {C = C} f g (x ∷ xs) = map-append f (g x) (flat_map g xs)
    ∙ ap (λ (ys : List C). map f (g x) ++ ys) (map_flat f g xs)

pub flat_same : {A B : Type 0} (f g : A → List B) (xs : List A) → ((x : A) → f x ≡ g x)
    → flat_map f xs ≡ flat_map g xs
flat_same f g [] each = refl
flat_same {B = B} f g (x ∷ xs) each =
    ap (λ (ys : List B). ys ++ flat_map f xs) (each x)
    ∙ ap (λ (ys : List B). g x ++ ys) (flat_same f g xs each)

pub map_same : {A B : Type 0} (f g : A → B) (xs : List A) → ((x : A) → f x ≡ g x)
    → map f xs ≡ map g xs
map_same f g [] each = refl
map_same {B = B} f g (x ∷ xs) each =
    ap (λ (y : B). y ∷ map f xs) (each x) ∙ ap (λ (ys : List B). g x ∷ ys) (map_same f g xs each)

-- both tests hold of all
pub all_both : {X : Type 0} (p q r : X → Bool) (xs : List X) → ((x : X) → r x ≡ (p x && q x))
    → list_all r xs ≡ (list_all p xs && list_all q xs)
all_both p q r [] each = refl
all_both p q r (x ∷ xs) each =
    ap (λ b. b && list_all r xs) (each x) ∙ ap (λ b. (p x && q x) && b) (all_both p q r xs each)
    ∙ swapped (p x) (q x) (list_all p xs) (list_all q xs)
  where
    swapped : (a b c d : Bool) → ((a && b) && (c && d)) ≡ ((a && c) && (b && d))
    swapped true true c d = refl
    swapped true false true d = refl
    swapped true false false d = refl
    swapped false b c d = refl

-- a list that is filled up with one item
pub resized : (xs ys : List ℕ) (n len times item : ℕ) → n ≡ len + times → len ≡ length xs
    → ys ≡ take n xs ++ replicate (n - len) item → ys ≡ xs ++ replicate times item
resized xs ys n len times item more long is =
    let left : n - len ≡ times = omega arith in
    is ∙ ap (λ (zs : List ℕ). zs ++ replicate (n - len) item) (take_all n xs (omega arith))
    ∙ ap (λ (k : ℕ). xs ++ replicate k item) left
