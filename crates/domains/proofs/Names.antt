-- Names that are the same.
use Rattle.std.proofs.Common.{◌≡◌, ℕ, true, false, ◌==◌, List, [], ◌∷◌, refl, eqb}
use Rattle.std.proofs.lemmas.Bool.{and_from, and_parts, eqb-true, eq-eqb}
use Rattle.domains.specs.Names.{is_same}

pub same_self : (xs : List ℕ) → is_same xs xs ≡ true
same_self [] = refl
same_self (x ∷ xs) = and_from (eqb x x) (is_same xs xs) (eq-eqb x x refl) (same_self xs)

pub same_texts : (xs ys : List ℕ) → is_same xs ys ≡ true → xs ≡ ys
same_texts [] [] h = refl
same_texts (x ∷ xs) (y ∷ ys) h =
    let parts = and_parts (x == y) (is_same xs ys) h in
    let first = eqb-true x y parts.0 in
    let rest = same_texts xs ys parts.1 in
    cc
same_texts [] (y ∷ ys) h = cc
same_texts (x ∷ xs) [] h = cc

pub texts_same : (xs ys : List ℕ) → xs ≡ ys → is_same xs ys ≡ true
texts_same xs ys h = rw h (same_self ys)

pub texts_differ : (xs ys : List ℕ) → (xs ≡ ys → ⊥) → is_same xs ys ≡ false
texts_differ xs ys h =
    elim (is_same xs ys) as (λ b. is_same xs ys ≡ b → is_same xs ys ≡ false) [
      | true ↦ λ e. absurd (h (same_texts xs ys e))
      | false ↦ λ e. e
    ] refl
