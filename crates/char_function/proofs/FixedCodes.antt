-- Lists of which some codes are fixed, and what stands before a place of an order.
use Rattle.std.proofs.Common.{◌≡◌, ⊎_elim, ℕ, zero, suc, ◌<◌, Bool, true, false, cond, ◌||◌, eqb, List, [], ◌∷◌, ◌++◌, length, take, get_or, slice_index, slice_set, refl, ap, sym, ◌∙◌, arith}
use Rattle.std.proofs.lemmas.Bool.{cases_Bool, cases_lt, eqb-true, eq-eqb, true≢false, or_right, or_left}
use Rattle.std.proofs.lemmas.List.{ext_get_or, get_or-map, length-map, get_or_append_left}
use Rattle.polis_base.specs.Lists.{upto}
use Rattle.domains.specs.Tables.{fits}
use Rattle.decision_diagram.specs.Sets.{stands, taking}
use Rattle.decision_diagram.proofs.Fits.{fits_at}
use Rattle.domains.proofs.Ranks.{length_fits}
use Rattle.domains.proofs.FittingCodes.{fits_from}
use Rattle.polis_base.proofs.UptoPlaces.{length_upto}

pub at_upto : (n k : ℕ) → k < n → get_or (upto n) k 0 ≡ k
at_upto zero k low = absurd (omega arith)
at_upto (suc n) k low =
    let l = length_upto n in
    ⊎_elim
    (λ less. get_or_append_left (upto n) (n ∷ []) 0 k (omega arith) ∙ at_upto n k less)
    (λ more. let e : k ≡ length (upto n) = omega arith in
    ap (λ i. get_or (upto n ++ n ∷ []) i 0) e ∙ last (upto n) n
    ∙ (let f : n ≡ k = omega arith in f))
    (cases_lt k n)
  where
    last : (xs : List ℕ) (x : ℕ) → get_or (xs ++ x ∷ []) (length xs) 0 ≡ x
    last [] x = refl
    last (y ∷ xs) x = last xs x

pub set_else : (xs : List ℕ) (v w code : ℕ) → (w ≡ v → ⊥)
    → slice_index (slice_set xs v code) w ≡ slice_index xs w
set_else [] v w code other = refl
set_else (x ∷ xs) zero zero code other = absurd (other refl)
set_else (x ∷ xs) zero (suc w) code other = refl
set_else (x ∷ xs) (suc v) zero code other = refl
set_else (x ∷ xs) (suc v) (suc w) code other = set_else xs v w code (λ e. other (ap suc e))

pub taking_long : (fixed : ℕ → Bool) (a b : List ℕ) → length (taking fixed a b) ≡ length b
taking_long fixed a b =
    length-map (upto (length b)) (λ v. cond (fixed v) (slice_index a v) (slice_index b v))
    ∙ length_upto (length b)

pub taking_at : (fixed : ℕ → Bool) (a b : List ℕ) (w : ℕ) → w < length b
    → slice_index (taking fixed a b) w ≡ cond (fixed w) (slice_index a w) (slice_index b w)
taking_at fixed a b w low =
    let l = length_upto (length b) in
    get_or-map (λ v. cond (fixed v) (slice_index a v) (slice_index b v)) (upto (length b)) w 0 0
    (omega arith)
    ∙ ap (λ v. cond (fixed v) (slice_index a v) (slice_index b v)) (at_upto (length b) w low)

pub taking_fits : (sizes : List ℕ) (fixed : ℕ → Bool) (a b : List ℕ) → fits sizes a ≡ true
    → fits sizes b ≡ true → fits sizes (taking fixed a b) ≡ true
taking_fits sizes fixed a b ha hb =
    let la = length_fits sizes a ha in
    let lb = length_fits sizes b hb in
    fits_from sizes (taking fixed a b) (taking_long fixed a b ∙ lb) (λ w low.
    let e = taking_at fixed a b w (omega arith) in
    let one = fits_at sizes a ha w low in
    let other = fits_at sizes b hb w low in
    let c = pick (fixed w) (slice_index a w) (slice_index b w) (slice_index sizes w) one other in
    omega arith)
  where
    pick : (t : Bool) (x y n : ℕ) → x < n → y < n → cond t x y < n
    pick true x y n one other = one
    pick false x y n one other = other

-- two ways of fixing agree where they agree on each item
pub taking_same : (one other : ℕ → Bool) (a b c d : List ℕ) → length b ≡ length d
    → ((w : ℕ) → w < length b → cond (one w) (slice_index a w) (slice_index b w)
    ≡ cond (other w) (slice_index c w) (slice_index d w)) → taking one a b ≡ taking other c d
taking_same one other a b c d long each =
    ext_get_or 0 (taking one a b) (taking other c d)
    (taking_long one a b ∙ long ∙ sym (taking_long other c d)) (λ w low.
    let lb : w < length b = let e = taking_long one a b in omega arith in
    let ld : w < length d = omega arith in
    taking_at one a b w lb ∙ each w lb ∙ sym (taking_at other c d w ld))

pub taking_is : (fixed : ℕ → Bool) (a b c : List ℕ) → length b ≡ length c
    → ((w : ℕ) → w < length b → cond (fixed w) (slice_index a w) (slice_index b w)
    ≡ slice_index c w) → taking fixed a b ≡ c
taking_is fixed a b c long each =
    ext_get_or 0 (taking fixed a b) c (taking_long fixed a b ∙ long) (λ w low.
    let lb : w < length b = let e = taking_long fixed a b in omega arith in
    taking_at fixed a b w lb ∙ each w lb)

-- ---- what stands before a place

-- what stands before a place stands at an earlier one
pub stands_at : (xs : List ℕ) (b w : ℕ) → stands (take b xs) w ≡ true
    → (a : ℕ) × (a < b) × (a < length xs) × (slice_index xs a ≡ w)
stands_at xs zero w h = absurd (true≢false (sym h))
stands_at [] (suc b) w h = absurd (true≢false (sym h))
stands_at (x ∷ xs) (suc b) w h =
    ⊎_elim
    (λ on. (zero, omega arith, omega arith, eqb-true x w on))
    (λ off. let r = stands_at xs b w (sym (ap (λ t. t || stands (take b xs) w) off) ∙ h) in
    let l = r.1 in let m = r.2 in (suc r.0, omega arith, omega arith, r.3))
    (cases_Bool (eqb x w))

pub at_stands : (xs : List ℕ) (b a w : ℕ) → a < b → a < length xs → slice_index xs a ≡ w
    → stands (take b xs) w ≡ true
at_stands xs zero a w low inside is = absurd (omega arith)
at_stands [] (suc b) a w low inside is = absurd (omega arith)
at_stands (x ∷ xs) (suc b) zero w low inside is =
    or_left (eqb x w) (stands (take b xs) w) (eq-eqb x w is)
at_stands (x ∷ xs) (suc b) (suc a) w low inside is =
    or_right (eqb x w) (stands (take b xs) w) (at_stands xs b a w (omega arith) (omega arith) is)

-- and one place further also what stands there
pub stands_more : (xs : List ℕ) (k w : ℕ) → k < length xs
    → stands (take (suc k) xs) w ≡ (stands (take k xs) w || eqb (slice_index xs k) w)
stands_more [] k w low = absurd (omega arith)
stands_more (x ∷ xs) zero w low = or_none (eqb x w)
  where
    or_none : (b : Bool) → (b || false) ≡ b
    or_none true = refl
    or_none false = refl
stands_more (x ∷ xs) (suc k) w low =
    ap (λ (b : Bool). eqb x w || b) (stands_more xs k w (omega arith))
    ∙ assoc (eqb x w) (stands (take k xs) w) (eqb (slice_index xs k) w)
  where
    assoc : (a b c : Bool) → (a || (b || c)) ≡ ((a || b) || c)
    assoc true b c = refl
    assoc false b c = refl

-- one more item is fixed
pub cond_step : (b c : Bool) (x y z : ℕ) → (b ≡ true → x ≡ z) → (b ≡ false → c ≡ true → y ≡ z)
    → cond b x y ≡ cond (b || c) z y
cond_step true c x y z one other = one refl
cond_step false true x y z one other = other refl refl
cond_step false false x y z one other = refl
