-- Lists with another item at one place.
use Rattle.std.proofs.Common.{◌≡◌, ⊎_elim, ℕ, zero, suc, ◌+◌, ◌<◌, ◌≤◌, List, [], ◌∷◌, length, slice_get, slice_set, Some, refl, sym, ap, ◌∙◌, arith}
use Rattle.std.proofs.lemmas.Bool.{cases_eq}

pub set_here : {X : Type 0} (xs : List X) (k : ℕ) (y : X) → k < length xs
    → slice_get (slice_set xs k y) k ≡ Some y
set_here [] k y low = absurd (omega arith)
set_here (x ∷ xs) zero y low = refl
set_here (x ∷ xs) (suc k) y low = set_here xs k y (omega arith)

pub set_other : {X : Type 0} (xs : List X) (k j : ℕ) (y : X) → (j ≡ k → ⊥)
    → slice_get (slice_set xs k y) j ≡ slice_get xs j
set_other [] k j y other = refl
set_other (x ∷ xs) zero zero y other = absurd (other refl)
set_other (x ∷ xs) zero (suc j) y other = refl
set_other (x ∷ xs) (suc k) zero y other = refl
set_other (x ∷ xs) (suc k) (suc j) y other =
    set_other xs k j y (λ same. other (omega arith))

-- the items below n are what f makes of them, the others are as they were
pub record AreJudged {X : Type 0} (f : ℕ → X → X) (n : ℕ) (old now : List X) : Type 0 where
  pub done : (i : ℕ) (x : X) → i < n → slice_get old i ≡ Some x → slice_get now i ≡ Some (f i x)
  pub left : (i : ℕ) → n ≤ i → slice_get now i ≡ slice_get old i

pub one_judged : {X : Type 0} (f : ℕ → X → X) (n : ℕ) (old now new : List X) (was is : X)
    → AreJudged f n old now → slice_get now n ≡ Some was → slice_get new n ≡ Some is
    → ((j : ℕ) → (j ≡ n → ⊥) → slice_get new j ≡ slice_get now j) → is ≡ f n was
    → AreJudged f (n + 1) old new
one_judged {X} f n old now new was is are here there others made =
    record {
      done = λ i x low at. ⊎_elim
          (λ same.
          let first : was ≡ x = same_one was x
          (sym here ∙ are.left n (omega arith) ∙ ap (slice_get old) (sym same) ∙ at) in
          ap (slice_get new) same ∙ there
          ∙ ap (λ (z : X). Some z)
          (made ∙ ap (f n) first ∙ ap (λ (k : ℕ). f k x) (sym same)))
          (λ away. others i away ∙ are.done i x (omega arith) at)
          (cases_eq i n);
      left = λ i high. others i (λ same. absurd (omega arith)) ∙ are.left i (omega arith);
    }
  where
    same_one : (a b : X) → Some a ≡ Some b → a ≡ b
    same_one a b h = cc

-- nothing is judged yet
pub none_judged : {X : Type 0} (f : ℕ → X → X) (xs : List X) → AreJudged f 0 xs xs
none_judged f xs = record {
  done = λ i x low at. absurd (omega arith);
  left = λ i high. refl;
}

-- the next item is set to what f makes of it
pub set_judged : {X : Type 0} (f : ℕ → X → X) (n : ℕ) (old now new : List X) (was is : X)
    → AreJudged f n old now → slice_get now n ≡ Some was → n < length now
    → new ≡ slice_set now n is → is ≡ f n was → AreJudged f (n + 1) old new
set_judged {X} f n old now new was is are here low set made =
    one_judged f n old now new was is are here
    (ap (λ (l : List X). slice_get l n) set ∙ set_here now n is low)
    (λ j away. ap (λ (l : List X). slice_get l j) set ∙ set_other now n j is away) made

-- the item that is next is the one that was
pub was_left : {X : Type 0} (f : ℕ → X → X) (n : ℕ) (old now : List X) (was : X)
    → AreJudged f n old now → slice_get now n ≡ Some was → slice_get old n ≡ Some was
was_left f n old now was are here = sym (are.left n (omega arith)) ∙ here
