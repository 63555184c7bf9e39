-- Lists that are made of the numbers below another.
use Rattle.std.proofs.Common.{List, Some, [], add-one, ap, arith, flat_map, length, length-append, map, option_map, refl, slice_get, suc, zero, ℕ, ⊎_elim, ◌*◌, ◌++◌, ◌+◌, ◌<◌, ◌∙◌, ◌∷◌, ◌≡◌}
use Rattle.std.proofs.lemmas.Bool.{cases_lt}
use Rattle.std.proofs.lemmas.Grind.{flat_map-append}
use Rattle.std.proofs.lemmas.List.{append-nil, length_push, map-append}
use Rattle.std.proofs.lemmas.Option.{slice_get-map}
use Rattle.polis_base.specs.Lists.{upto}
use Rattle.polis_base.proofs.Places.{get_end, get_stays}

pub length_upto : (n : ℕ) → length (upto n) ≡ n
length_upto zero = refl
length_upto (suc n) = length_push (upto n) n ∙ rw (length_upto n) (add-one n)

pub flat_map_upto : {X : Type 0} (f : ℕ → List X) (n : ℕ)
    → flat_map f (upto (suc n)) ≡ flat_map f (upto n) ++ f n
flat_map_upto f n =
    flat_map-append f (upto n) (n ∷ [])
    ∙ ap (λ (xs : List _). flat_map f (upto n) ++ xs) (append-nil (f n))

pub map_upto : {X : Type 0} (f : ℕ → X) (n : ℕ) → map f (upto (n + 1)) ≡ map f (upto n) ++ f n ∷ []
map_upto f n = rw add-one (map-append f (upto n) (n ∷ []))

pub get_upto : (n k : ℕ) → k < n → slice_get (upto n) k ≡ Some k
get_upto zero k low = absurd (omega arith)
get_upto (suc n) k low =
    ⊎_elim
    (λ less. get_stays (upto n) (n ∷ []) k k (get_upto n k less))
    (λ more. let l = length_upto n in let e : k ≡ length (upto n) = omega arith in
    ap (slice_get (upto n ++ n ∷ [])) e ∙ get_end (upto n) n
    ∙ ap Some (let e : n ≡ k = omega arith in e))
    (cases_lt k n)

pub length_flat_map_upto : {Y : Type 0} (f : ℕ → List Y) (w n : ℕ) → ((k : ℕ) → length (f k) ≡ w)
    → length (flat_map f (upto n)) ≡ n * w
length_flat_map_upto f w zero each = omega arith
length_flat_map_upto {Y = Y} f w (suc n) each =
    let e = ap (λ (ys : List Y). length ys) (flat_map_upto f n) in
    let l = length-append (flat_map f (upto n)) (f n) in
    let r = length_flat_map_upto f w n each in
    let k = each n in
    omega arith

pub get_map_upto : {X : Type 0} (f : ℕ → X) (n k : ℕ) → k < n → slice_get (map f (upto n)) k ≡ Some (f k)
get_map_upto f n k below = slice_get-map f (upto n) k ∙ ap (option_map f) (get_upto n k below)
