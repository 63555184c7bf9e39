-- Weights of variables, and the codes that have a number.
use Rattle.std.proofs.Common.{◌≡◌, ℕ, zero, suc, ◌+◌, ◌*◌, ◌/◌, ◌%◌, ◌<◌, ◌≤◌, true, nat_le, ◌&&◌, List, [], ◌∷◌, ◌++◌, length, drop, slice_index, slice_set, refl, ap, sym, subst, ◌∙◌, arith, length-set, ltb}
use Rattle.std.proofs.Math.Nat.{mul-le-mul_right}
use Rattle.std.proofs.lemmas.Bool.{and_parts, and_from, lt-ltb, leb-true, cases_lt}
use Rattle.std.proofs.Common.{inl, inr}
use Rattle.std.proofs.lemmas.List.{drop_more, drop-set, drop_all, append_assoc, append-nil}
use Rattle.domains.specs.Tables.{are_sizes, fits, product, rank}
use Rattle.cost_bound.specs.inner.Scores.{weights_of}

pub long_weights : (sizes : List ℕ) → length (weights_of sizes) ≡ length sizes
long_weights [] = refl
long_weights (size ∷ sizes) = ap suc (long_weights sizes)

-- weights from the last variable to this one
pub record Weighed (sizes weights : List ℕ) (weight v : ℕ) : Type 0 where
  pub long : length weights ≡ length sizes
  pub weight_is : weight ≡ product (drop v sizes)
  pub made : drop v weights ≡ weights_of (drop v sizes)

pub weighed_more : (sizes a b : List ℕ) (weight v : ℕ) → v < length sizes
    → Weighed sizes a weight (v + 1) → b ≡ slice_set a v weight
    → Weighed sizes b (weight * slice_index sizes v) v
weighed_more sizes a b weight v low weighed set =
    let inside : v < length a = omega (arith, weighed.long) in
    let split = drop_more sizes v 0 low in
    let sizes_is : product (drop v sizes) ≡ slice_index sizes v * product (drop (v + 1) sizes) =
    ap product split in
    record {
      long = ap (λ (xs : List ℕ). length xs) set ∙ length-set a v weight ∙ weighed.long;
      weight_is = sym (sizes_is ∙ flip (slice_index sizes v) weighed.weight_is);
      made = ap (drop v) set ∙ drop-set a v weight inside
          ∙ ap (λ (xs : List ℕ). weight ∷ xs) weighed.made
          ∙ ap (λ (n : ℕ). n ∷ weights_of (drop (v + 1) sizes)) weighed.weight_is
          ∙ sym (ap weights_of split);
    }
  where
    flip : (size : ℕ) {p : ℕ} → weight ≡ p → size * p ≡ weight * size
    flip size e = rw e (omega arith)

-- a weight for each code of its variable
pub weight_few : (sizes : List ℕ) (v : ℕ) → are_sizes sizes ≡ true → v < length sizes
    → slice_index (weights_of sizes) v * slice_index sizes v ≤ product sizes
weight_few [] v h low = absurd (omega arith)
weight_few (size ∷ sizes) zero h low = omega arith
weight_few (size ∷ sizes) (suc v) h low =
    let parts = and_parts (nat_le 1 size && nat_le size 33) (are_sizes sizes) h in
    let some : 1 ≤ size =
    leb-true 1 size (and_parts (nat_le 1 size) (nat_le size 33) parts.0).0 in
    let rest = weight_few sizes v parts.1 (omega arith) in
    let more : 1 * product sizes ≤ size * product sizes =
    mul-le-mul_right (product sizes) some in
    omega arith

pub weight_at : (sizes : List ℕ) (v : ℕ) → v < length sizes
    → slice_index (weights_of sizes) v ≡ product (drop (v + 1) sizes)
weight_at [] v low = absurd (omega arith)
weight_at (size ∷ sizes) zero low = refl
weight_at (size ∷ sizes) (suc v) low =
    weight_at sizes v (omega arith)
    ∙ ap (λ (n : ℕ). product (drop n (size ∷ sizes))) one
  where
    one : suc (v + 1) ≡ suc v + 1
    one = omega arith

-- the first codes, and the number that the others have to have
pub record Numbered (sizes : List ℕ) (number : ℕ) (codes : List ℕ) (left v : ℕ) : Type 0 where
  pub below : left < product (drop v sizes)
  pub ends :
      (rest : List ℕ)
      → fits (drop v sizes) rest ≡ true
      → rank (drop v sizes) rest ≡ left
      → (fits sizes (codes ++ rest) ≡ true) × (rank sizes (codes ++ rest) ≡ number)

quotient_below : (n size w : ℕ) → 0 < w → n < size * w → n / w < size
quotient_below n size w some low =
    elim (cases_lt (n / w) size) [
      | inl less ↦ less
      | inr more ↦ absurd (over n size w some low more)
    ]
  where
    over : (n size w : ℕ) → 0 < w → n < size * w → size ≤ n / w → ⊥
    over n size zero some low more = omega arith
    over n size (suc u) some low more = omega (arith, mul-le-mul_right (suc u) more)

pub positive : (left size p : ℕ) → left < size * p → 0 < p
positive left size zero low = omega arith
positive left size (suc p) low = omega arith

parts_of : (n w : ℕ) → 0 < w → ((n / w) * w + n % w ≡ n) × (n % w < w)
parts_of n zero some = absurd (omega arith)
parts_of n (suc u) some = (omega arith, omega arith)

pub numbered_more : (sizes : List ℕ) (number : ℕ) (codes : List ℕ) (left v w : ℕ)
    → v < length sizes → w ≡ product (drop (v + 1) sizes) → Numbered sizes number codes left v
    → (0 < w) × (left / w < slice_index sizes v)
    × Numbered sizes number (codes ++ (left / w) ∷ []) (left % w) (v + 1)
numbered_more sizes number codes left v w low weight numbered =
    let split = drop_more sizes v 0 low in
    let size : ℕ = slice_index sizes v in
    let later : List ℕ = drop (v + 1) sizes in
    let whole : left < size * w =
    subst (λ (n : ℕ). left < size * n) (sym weight)
    (subst (λ (xs : List ℕ). left < product xs) split numbered.below) in
    let some : 0 < w = positive left size w whole in
    let code = quotient_below left size w some whole in
    let parts = parts_of left w some in (
      some,
      code,
      record {
        below = subst (λ (n : ℕ). left % w < n) weight parts.1;
        ends = λ rest fs is.
            let first : fits (drop v sizes) ((left / w) ∷ rest) ≡ true =
            subst (λ (xs : List ℕ). fits xs ((left / w) ∷ rest) ≡ true) (sym split)
            (and_from (ltb (left / w) size) (fits later rest) (lt-ltb (left / w) size code) fs) in
            let number_is : rank (drop v sizes) ((left / w) ∷ rest) ≡ left =
            ap (λ (xs : List ℕ). rank xs ((left / w) ∷ rest)) split
            ∙ ap (λ (n : ℕ). left / w * n + rank later rest) (sym weight)
            ∙ ap (λ (n : ℕ). left / w * w + n) is ∙ parts.0 in
            let whole_list : (codes ++ (left / w) ∷ []) ++ rest ≡ codes ++ ((left / w) ∷ rest) =
            append_assoc codes ((left / w) ∷ []) rest in
            let ends = numbered.ends ((left / w) ∷ rest) first number_is in
            (ap (fits sizes) whole_list ∙ ends.0, ap (rank sizes) whole_list ∙ ends.1);
      },
    )

pub numbered_ends : (sizes : List ℕ) (number : ℕ) (codes : List ℕ) (left v : ℕ)
    → length sizes ≤ v → Numbered sizes number codes left v
    → (fits sizes codes ≡ true) × (rank sizes codes ≡ number)
numbered_ends sizes number codes left v high numbered =
    let none = drop_all v sizes high in
    let nothing_left : left ≡ 0 =
    let b : left < 1 = subst (λ (xs : List ℕ). left < product xs) none numbered.below in
    omega arith in
    let ends = numbered.ends []
    (ap (λ (xs : List ℕ). fits xs []) none)
    (ap (λ (xs : List ℕ). rank xs []) none ∙ sym nothing_left) in
    let same = append-nil codes in
    (ap (fits sizes) (sym same) ∙ ends.0, ap (rank sizes) (sym same) ∙ ends.1)
