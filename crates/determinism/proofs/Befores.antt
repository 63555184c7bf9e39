-- The order of lists of codes.
use Rattle.std.proofs.Common.{◌≡◌, ◌≢◌, ◌<◌, ◌≤◌, ℕ, zero, suc, List, [], ◌∷◌, length, slice_index, arith, sym, ◌∙◌, inl, inr}
use Rattle.std.specs.Cmp.{nat_cmp_is}
use Rattle.std.specs.Cmp.Lexicographic.{slice_cmp}
use Rattle.std.specs.Ordering.{nat_cmp}
use Rattle.std.specs.declared.cmp.Ordering.TheVariants.{Less, Equal, Greater}
use Rattle.std.proofs.lemmas.Bool.Decides.{eqb_tells}
use Rattle.determinism.specs.inner.Boxes.{Before}

-- in the words of `cmp`
pub up_to : (xs ys : List ℕ) → length xs ≡ length ys → Before xs ys
    → slice_cmp nat_cmp xs ys ≢ Greater
up_to [] [] same h = λ e. cc
up_to [] (y ∷ ys) same h = absurd (omega arith)
up_to (x ∷ xs) [] same h = absurd h
up_to (x ∷ xs) (y ∷ ys) same (inl less) = rw (sym (nat_cmp_is x y Less less)) (λ e. cc)
up_to (x ∷ xs) (y ∷ ys) same (inr (here, h)) =
    rw (sym (nat_cmp_is x y Equal here)) (up_to xs ys (omega arith) h)

-- no code is above the other
pub before_all : (xs ys : List ℕ) → length xs ≡ length ys
    → ((k : ℕ) → k < length xs → slice_index xs k ≤ slice_index ys k) → Before xs ys
before_all [] ys same each = tt
before_all (x ∷ xs) [] same each = absurd (omega arith)
before_all (x ∷ xs) (y ∷ ys) same each =
    let first : x ≤ y = each 0 (omega arith) in
    elim (eqb_tells x y) [
      | inl here ↦ inr
          (here.1, before_all xs ys (omega arith) (λ k below. each (suc k) (omega arith)))
      | inr apart ↦ inl (let differ = apart.1 in omega arith)
    ]

-- no code in prefix of a smaller one is above the other
pub before_at : (xs ys : List ℕ) (i : ℕ) → length xs ≡ length ys → i < length xs
    → ((k : ℕ) → k < i → slice_index xs k ≤ slice_index ys k) → slice_index xs i < slice_index ys i
    → Before xs ys
before_at [] ys i same below each less = tt
before_at (x ∷ xs) [] i same below each less = absurd (omega arith)
before_at (x ∷ xs) (y ∷ ys) zero same below each less = inl less
before_at (x ∷ xs) (y ∷ ys) (suc i) same below each less =
    let first : x ≤ y = each 0 (omega arith) in
    elim (eqb_tells x y) [
      | inl here ↦ inr (
        here.1,
        before_at xs ys i (omega arith) (omega arith)
            (λ k within. each (suc k) (omega arith)) less,
      )
      | inr apart ↦ inl (let differ = apart.1 in omega arith)
    ]

pub before_trans : (xs ys zs : List ℕ) → Before xs ys → Before ys zs → Before xs zs
before_trans [] ys zs h g = tt
before_trans (x ∷ xs) [] zs h g = absurd h
before_trans (x ∷ xs) (y ∷ ys) [] h g = absurd g
before_trans (x ∷ xs) (y ∷ ys) (z ∷ zs) (inl h) (inl g) = inl (omega arith)
before_trans (x ∷ xs) (y ∷ ys) (z ∷ zs) (inl h) (inr (e, g)) = inl (omega arith)
before_trans (x ∷ xs) (y ∷ ys) (z ∷ zs) (inr (d, h)) (inl g) = inl (omega arith)
before_trans (x ∷ xs) (y ∷ ys) (z ∷ zs) (inr (d, h)) (inr (e, g)) =
    inr (d ∙ e, before_trans xs ys zs h g)
