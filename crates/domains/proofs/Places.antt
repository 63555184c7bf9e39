-- Places of numbers in a permutation.
use Rattle.std.proofs.Common.{◌≡◌, ◌≢◌, ⊎_elim, ℕ, zero, suc, ◌+◌, ◌<◌, ◌≤◌, true, false, eqb, List, [], ◌∷◌, length, slice_index, refl, sym, ◌∙◌, arith, get_or}
use Rattle.std.specs.List.{list_any}
use Rattle.std.proofs.lemmas.List.{get_or_default}
use Rattle.std.proofs.lemmas.Bool.{cases_eq, cases_lt, eq-eqb, ne_eqb, eqb-true, cond-true, cond-false, or_cases, false≢true}
use Rattle.std.proofs.lemmas.Map.Steps.{length-le_from_distinct_below}
use Rattle.std.proofs.lemmas.Map.Keys.{IsDistinct-from_apart}
use Rattle.domains.specs.Orders.{IsPermutation, place, HavePlaces, OnePlace}

-- v stands first at p
pub place_here : (list : List ℕ) (v p : ℕ) → p < length list → slice_index list p ≡ v
    → ((j : ℕ) → j < p → slice_index list j ≢ v) → place list v ≡ p
place_here [] v p h is before = absurd (omega arith)
place_here (x ∷ xs) v zero h is before = cond-true (eqb x v) 0 (place xs v + 1) (eq-eqb x v is)
place_here (x ∷ xs) v (suc p) h is before =
    let rest = place_here xs v p (omega arith) is (λ j below. before (suc j) (omega arith)) in
    cond-false (eqb x v) 0 (place xs v + 1) (ne_eqb x v (before 0 (omega arith))) ∙ omega arith

-- what stands at a place
pub at_place : (list : List ℕ) (v : ℕ) → place list v < length list
    → slice_index list (place list v) ≡ v
at_place [] v h = absurd (omega arith)
at_place (x ∷ xs) v h =
    ⊎_elim
    (λ same. let e = cond-true (eqb x v) 0 (place xs v + 1) (eq-eqb x v same) in rw e same)
    (λ other.
    let e = cond-false (eqb x v) 0 (place xs v + 1) (ne_eqb x v other) in
    let s : place xs v + 1 ≡ suc (place xs v) = omega arith in
    rw (e, s) (at_place xs v (omega arith)))
    (cases_eq x v)

-- the first place is no later than another one
pub place_first : (list : List ℕ) (v j : ℕ) → j < length list → slice_index list j ≡ v
    → place list v ≤ j
place_first [] v j h is = absurd (omega arith)
place_first (x ∷ xs) v zero h is = let e = cond-true (eqb x v) 0 (place xs v + 1) (eq-eqb x v is) in
    omega arith
place_first (x ∷ xs) v (suc j) h is =
    let rest = place_first xs v j (omega arith) is in
    ⊎_elim
    (λ same. let e = cond-true (eqb x v) 0 (place xs v + 1) (eq-eqb x v same) in omega arith)
    (λ other. let e = cond-false (eqb x v) 0 (place xs v + 1) (ne_eqb x v other) in omega arith)
    (cases_eq x v)

-- what is below at each place is below wherever it is found
pub below_any : (list : List ℕ) (n : ℕ) → ((i : ℕ) → i < length list → slice_index list i < n) → (q : ℕ)
    → list_any (eqb q) list ≡ true → q < n
below_any [] n h q found = absurd (false≢true found)
below_any (x ∷ xs) n h q found =
    ⊎_elim
    (λ here. let e = eqb-true q x here in let b : x < n = h 0 (omega arith) in omega arith)
    (λ later. below_any xs n (λ i below. h (suc i) (omega arith)) q later)
    (or_cases (eqb q x) (list_any (eqb q) xs) found)

-- a list with one more before it that stands nowhere in it
pub more_apart : (list : List ℕ) (v : ℕ) → IsPermutation list
    → ((j : ℕ) → j < length list → slice_index list j ≢ v) → (i j d : ℕ) → i < j
    → j < length (v ∷ list) → eqb (get_or (v ∷ list) i d) (get_or (v ∷ list) j d) ≡ false
more_apart list v order nowhere zero zero d less below = absurd (omega arith)
more_apart list v order nowhere zero (suc j) d less below =
    let within : j < length list = omega arith in
    let e = get_or_default list j d 0 within in
    ne_eqb v (get_or list j d) (λ same. nowhere j within (sym e ∙ sym same))
more_apart list v order nowhere (suc i) zero d less below = absurd (omega arith)
more_apart list v order nowhere (suc i) (suc j) d less below =
    let within : j < length list = omega arith in
    let e = get_or_default list j d 0 within in
    let f = get_or_default list i d 0 (omega arith) in
    ne_eqb (get_or list i d) (get_or list j d)
    (λ same. order.distinct i j (omega arith) within (sym f ∙ same ∙ e))

-- each number below the length has a place
pub place_below : (list : List ℕ) → IsPermutation list → (v : ℕ) → v < length list
    → place list v < length list
place_below list order v h =
    ⊎_elim
    (λ within. within)
    (λ past.
    let nowhere : (j : ℕ) → j < length list → slice_index list j ≢ v = λ j below same. let first =
    place_first list v j below same in absurd (omega arith) in
    let distinct = IsDistinct-from_apart eqb (v ∷ list) (more_apart list v order nowhere) in
    let few : (q : ℕ) → list_any (eqb q) (v ∷ list) ≡ true → q < length list =
    λ q found. ⊎_elim (λ here. let e = eqb-true q v here in
    omega arith) (λ later. below_any list (length list) order.below q later)
    (or_cases (eqb q v) (list_any (eqb q) list) found) in
    let all : length (v ∷ list) ≤ length list =
    length-le_from_distinct_below (v ∷ list) (length list) distinct few in
    absurd (omega arith))
    (cases_lt (place list v) (length list))

-- places of different numbers differ
pub place_of_item : (list : List ℕ) → IsPermutation list → (i : ℕ) → i < length list
    → place list (slice_index list i) ≡ i
place_of_item list order i h =
    place_here list (slice_index list i) i h refl (λ j below. order.distinct j i below h)

pub have_places : HavePlaces
have_places list v order h = let low = place_below list order v h in (low, at_place list v low)

pub one_place : OnePlace
one_place list i order h = place_of_item list order i h
