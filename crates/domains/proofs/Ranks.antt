-- The numbers of the lists that fit.
use Rattle.std.proofs.Common.{◌≡◌, ℕ, zero, suc, ◌+◌, ◌*◌, ◌/◌, ◌%◌, ◌<◌, ◌≤◌, ◌==◌, true, not, ◌&&◌, nat_lt, nat_le, List, [], ◌∷◌, length, replicate, drop, slice_index, arith, ap, refl, inl, inr}
use Rattle.std.specs.Cmp.Derive.{both_true}
use Rattle.std.proofs.lemmas.Bool.{eqb-true, ltb-true, leb-true, lt-ltb, and_parts, cases_Bool, cases_lt, cases_order}
use Rattle.std.proofs.lemmas.Nat.{mul-add-lt}
use Rattle.std.proofs.Math.Nat.{mul-le-mul_right}
use Rattle.domains.specs.Tables.{fits, are_sizes, product, rank, are_greatest, stepped, RanksBelow, RanksDiffer, RanksReach}

pub ranks_below : RanksBelow
ranks_below [] [] f = omega arith
ranks_below (size ∷ sizes) (code ∷ codes) f =
    let parts = and_parts (nat_lt code size) (fits sizes codes) f in
    let b : code < size = ltb-true _ _ parts.0 in
    omega (
      arith,
      mul-add-lt code (product sizes) (rank sizes codes) size b
          (ranks_below sizes codes parts.1),
    )
ranks_below [] (code ∷ codes) f = cc
ranks_below (size ∷ sizes) [] f = cc

-- a place in a grid has one row and one column
same_place : (a b w x y : ℕ) → x < w → y < w → a * w + x ≡ b * w + y → (a ≡ b) × (x ≡ y)
same_place a b w x y within_x within_y e =
    elim (cases_order a b) [
      | inl same ↦ (same, omega (arith, ap (λ (n : ℕ). n * w) same))
      | inr (inl less) ↦
          let next : a + 1 ≤ b = omega arith in
          absurd (omega (arith, mul-le-mul_right w next))
      | inr (inr more) ↦
          let next : b + 1 ≤ a = omega arith in
          absurd (omega (arith, mul-le-mul_right w next))
    ]

pub ranks_differ : RanksDiffer
ranks_differ [] [] [] fx fy e = refl
ranks_differ (size ∷ sizes) (x ∷ xs) (y ∷ ys) fx fy e =
    let px = and_parts (nat_lt x size) (fits sizes xs) fx in
    let py = and_parts (nat_lt y size) (fits sizes ys) fy in
    let same = same_place x y (product sizes) (rank sizes xs) (rank sizes ys)
    (ranks_below sizes xs px.1) (ranks_below sizes ys py.1) e in
    let rest = ranks_differ sizes xs ys px.1 py.1 same.1 in
    let first = same.0 in
    cc
ranks_differ [] (x ∷ xs) ys fx fy e = cc
ranks_differ [] [] (y ∷ ys) fx fy e = cc
ranks_differ (size ∷ sizes) [] ys fx fy e = cc
ranks_differ (size ∷ sizes) (x ∷ xs) [] fx fy e = cc

-- the row and the column of a place in a grid
placed : (n size w : ℕ) → n < size * w → (a : ℕ) × (x : ℕ) × (a < size) × (x < w) × (a * w + x ≡ n)
placed n size zero h = absurd (omega arith)
placed n size (suc v) h =
    let w = suc v in
    elim (cases_lt (n / w) size) [
      | inl less ↦ (n / w, n % w, less, omega arith, omega arith)
      | inr more ↦ absurd (omega (arith, mul-le-mul_right w more))
    ]

pub ranks_reach : RanksReach
ranks_reach [] n h = ([], refl, omega arith)
ranks_reach (size ∷ sizes) n h =
    let p = placed n size (product sizes) h in
    let rest = ranks_reach sizes p.1 p.3 in
    (p.0 ∷ rest.0, both_true (lt-ltb p.0 size p.2) rest.1, omega (arith, rest.2, p.4))

-- zeros
pub rank_zeros : (sizes : List ℕ) (n : ℕ) → rank sizes (replicate n 0) ≡ 0
rank_zeros [] n = refl
rank_zeros (size ∷ sizes) zero = refl
rank_zeros (size ∷ sizes) (suc n) = omega (arith, rank_zeros sizes n)

pub fits_zeros : (sizes : List ℕ) → are_sizes sizes ≡ true
    → fits sizes (replicate (length sizes) 0) ≡ true
fits_zeros [] h = refl
fits_zeros (size ∷ sizes) h =
    let parts = and_parts (nat_le 1 size && nat_le size 33) (are_sizes sizes) h in
    let some = (and_parts (nat_le 1 size) (nat_le size 33) parts.0).0 in
    both_true (lt-ltb 0 size (leb-true 1 size some)) (fits_zeros sizes parts.1)

-- the last list
pub rank_greatest : (sizes codes : List ℕ) → are_greatest sizes codes ≡ true
    → rank sizes codes + 1 ≡ product sizes
rank_greatest [] [] h = refl
rank_greatest (size ∷ sizes) (code ∷ codes) h =
    let parts = and_parts (code + 1 == size) (are_greatest sizes codes) h in
    let e : code + 1 ≡ size = eqb-true _ _ parts.0 in
    let r = rank_greatest sizes codes parts.1 in
    omega (arith, ap (λ (n : ℕ). n * product sizes) e)
rank_greatest [] (code ∷ codes) h = cc
rank_greatest (size ∷ sizes) [] h = cc

pub length_fits : (sizes codes : List ℕ) → fits sizes codes ≡ true → length codes ≡ length sizes
length_fits [] [] h = refl
length_fits (size ∷ sizes) (code ∷ codes) h =
    ap suc (length_fits sizes codes (and_parts (nat_lt code size) (fits sizes codes) h).1)
length_fits [] (code ∷ codes) h = cc
length_fits (size ∷ sizes) [] h = cc

-- the next list
pub rank_stepped : (sizes codes : List ℕ) (k : ℕ) → fits sizes codes ≡ true → k < length codes
    → are_greatest (drop (suc k) sizes) (drop (suc k) codes) ≡ true
    → rank sizes (stepped codes k) ≡ rank sizes codes + 1
rank_stepped [] [] k f below g = absurd (omega arith)
rank_stepped (size ∷ sizes) (code ∷ codes) zero f below g =
    let z = rank_zeros sizes (length codes) in
    let r = rank_greatest sizes codes g in
    omega arith
rank_stepped (size ∷ sizes) (code ∷ codes) (suc k) f below g =
    let parts = and_parts (nat_lt code size) (fits sizes codes) f in
    omega (arith, rank_stepped sizes codes k parts.1 (omega arith) g)
rank_stepped [] (code ∷ codes) k f below g = cc
rank_stepped (size ∷ sizes) [] k f below g = cc

pub fits_stepped : (sizes codes : List ℕ) (k : ℕ) → are_sizes sizes ≡ true → fits sizes codes ≡ true
    → k < length codes → slice_index codes k + 1 < slice_index sizes k
    → fits sizes (stepped codes k) ≡ true
fits_stepped [] [] k s f below room = absurd (omega arith)
fits_stepped (size ∷ sizes) (code ∷ codes) zero s f below room =
    let parts = and_parts (nat_lt code size) (fits sizes codes) f in
    let rest = (and_parts (nat_le 1 size && nat_le size 33) (are_sizes sizes) s).1 in
    both_true (lt-ltb (code + 1) size room)
    (rw (length_fits sizes codes parts.1) (fits_zeros sizes rest))
fits_stepped (size ∷ sizes) (code ∷ codes) (suc k) s f below room =
    let parts = and_parts (nat_lt code size) (fits sizes codes) f in
    let rest = (and_parts (nat_le 1 size && nat_le size 33) (are_sizes sizes) s).1 in
    both_true parts.0 (fits_stepped sizes codes k rest parts.1 (omega arith) room)
fits_stepped [] (code ∷ codes) k s f below room = cc
fits_stepped (size ∷ sizes) [] k s f below room = cc

-- a list with a next one isn't the last
pub not_greatest : (sizes codes : List ℕ) → rank sizes codes + 1 < product sizes
    → true ≡ not (are_greatest sizes codes)
not_greatest sizes codes more =
    elim (cases_Bool (are_greatest sizes codes)) [
      | inl greatest ↦ absurd (omega (arith, rank_greatest sizes codes greatest))
      | inr below ↦ rw below refl
    ]

-- the next list has the next number, which is below the product
pub next_below : (sizes codes : List ℕ) (k : ℕ) → are_sizes sizes ≡ true → fits sizes codes ≡ true
    → k < length codes → slice_index codes k + 1 < slice_index sizes k
    → are_greatest (drop (suc k) sizes) (drop (suc k) codes) ≡ true
    → rank sizes codes + 1 < product sizes
next_below sizes codes k s f below room g =
    omega (
      arith,
      ranks_below sizes (stepped codes k) (fits_stepped sizes codes k s f below room),
      rank_stepped sizes codes k f below g,
    )

-- a size is at most 33
pub size_few : (sizes : List ℕ) (k : ℕ) → are_sizes sizes ≡ true → slice_index sizes k ≤ 33
size_few [] k h = omega arith
size_few (size ∷ sizes) zero h =
    leb-true _ _ (and_parts (nat_le 1 size) (nat_le size 33)
    (and_parts (nat_le 1 size && nat_le size 33) (are_sizes sizes) h).0).1
size_few (size ∷ sizes) (suc k) h =
    size_few sizes k (and_parts (nat_le 1 size && nat_le size 33) (are_sizes sizes) h).1
