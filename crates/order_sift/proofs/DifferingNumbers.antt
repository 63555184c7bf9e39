-- Counting different numbers one after another.
use Rattle.std.proofs.Common.{◌≡◌, ◌∙◌, ⊎_elim, ◌+◌, ◌++◌, ◌∷◌, ◌||◌, ℕ, suc, Bool, true, false, cond, [], List, map, length, take, ◌<◌, slice_index, arith, ap, refl, eqb}
use Rattle.std.specs.Prelude.{filter}
use Rattle.std.specs.List.{list_any}
use Rattle.std.proofs.lemmas.Bool.{cases_eq, eq-eqb, ne_eqb}
use Rattle.std.proofs.lemmas.List.{map-append, append-nil, take_more}
use Rattle.std.proofs.lemmas.List.Folds.{list_any-append}
use Rattle.std.proofs.lemmas.List.Elements.{filter-append}
use Rattle.polis_base.specs.Lists.{upto}
use Rattle.order_sift.specs.inner.Classes.{differing}
use Rattle.decision_diagram.proofs.Distinct.{eqb_turned}
use Rattle.polis_base.proofs.Bools.{or_none}

pub any_more : (n x : ℕ) (xs : List ℕ)
    → list_any (λ k. eqb k n) (xs ++ x ∷ []) ≡ (list_any (λ k. eqb k n) xs || eqb x n)
any_more n x xs = list_any-append (λ k. eqb k n) xs (x ∷ [])
    ∙ ap (λ b. list_any (λ k. eqb k n) xs || b) (or_none (eqb x n))

pub differing_more : (x : ℕ) (xs : List ℕ)
    → differing (xs ++ x ∷ []) ≡ differing xs + cond (list_any (λ k. eqb k x) xs) 0 1
differing_more x [] = refl
differing_more x (z ∷ zs) =
    let rest = differing_more x zs in
    let more : list_any (λ y. eqb z y) (zs ++ x ∷ []) ≡ (list_any (λ y. eqb z y) zs || eqb z x) =
    list_any-append (λ y. eqb z y) zs (x ∷ [])
    ∙ ap (λ b. list_any (λ y. eqb z y) zs || b) (or_none (eqb z x)) in
    ⊎_elim
    (λ same.
    let on = eq-eqb z x same in
    let a : differing (z ∷ (zs ++ x ∷ [])) ≡ 0 + differing (zs ++ x ∷ []) =
    ap (λ b. cond b 0 1 + differing (zs ++ x ∷ []))
    (more ∙ ap (λ b. list_any (λ y. eqb z y) zs || b) on
    ∙ or_true (list_any (λ y. eqb z y) zs)) in
    let turned : list_any (λ y. eqb z y) zs ≡ list_any (λ k. eqb k x) zs = swapped zs same in
    let b : differing (z ∷ zs) ≡ cond (list_any (λ k. eqb k x) zs) 0 1 + differing zs =
    ap (λ t. cond t 0 1 + differing zs) turned in
    let d : cond {A = ℕ} (list_any (λ k. eqb k x) (z ∷ zs)) 0 1 ≡ 0 =
    ap (λ t. cond {A = ℕ} (t || list_any (λ k. eqb k x) zs) 0 1) on in
    omega arith)
    (λ apart.
    let off = ne_eqb z x apart in
    let a : differing (z ∷ (zs ++ x ∷ []))
    ≡ cond (list_any (λ y. eqb z y) zs) 0 1 + differing (zs ++ x ∷ []) =
    ap (λ b. cond b 0 1 + differing (zs ++ x ∷ []))
    (more ∙ ap (λ b. list_any (λ y. eqb z y) zs || b) off
    ∙ or_none (list_any (λ y. eqb z y) zs)) in
    let d : cond {A = ℕ} (list_any (λ k. eqb k x) (z ∷ zs)) 0 1
    ≡ cond {A = ℕ} (list_any (λ k. eqb k x) zs) 0 1 =
    ap (λ t. cond {A = ℕ} (t || list_any (λ k. eqb k x) zs) 0 1) off in
    omega arith)
    (cases_eq z x)
  where
    or_true : (t : Bool) → (t || true) ≡ true
    or_true true = refl
    or_true false = refl

    swapped : {z x : ℕ} (ys : List ℕ) → z ≡ x
        → list_any (λ y. eqb z y) ys ≡ list_any (λ k. eqb k x) ys
    swapped [] same = refl
    swapped {z = z} {x = x} (y ∷ ys) same =
        ap (λ b. b || list_any (λ w. eqb z w) ys) (ap (λ n. eqb n y) same ∙ eqb_turned x y)
        ∙ ap (λ b. eqb y x || b) (swapped ys same)

pub marked_more : (classes marks : List ℕ) (i : ℕ) → i < length marks
    → map (slice_index classes) (take (i + 1) marks) ≡ map (slice_index classes) (take i marks)
    ++ slice_index classes (slice_index marks i) ∷ []
marked_more classes marks i low = ap (map (slice_index classes)) (take_more marks i 0 low)
    ∙ map-append (slice_index classes) (take i marks) (slice_index marks i ∷ [])

-- one more number that passes, or does not
pub passes_more : (p : ℕ → Bool) (i : ℕ) (b : Bool) → p i ≡ b
    → filter p (upto (i + 1)) ≡ filter p (upto i) ++ cond b (i ∷ []) []
passes_more p i b is =
    let e : i + 1 ≡ suc i = omega arith in
    ap (λ k. filter p (upto k)) e
    ∙ filter-append p (upto i) (i ∷ [])
    ∙ ap (λ t. filter p (upto i) ++ cond t (i ∷ []) []) is

pub passes_not : (p : ℕ → Bool) (i : ℕ) → p i ≡ false
    → filter p (upto (i + 1)) ≡ filter p (upto i)
passes_not p i off = passes_more p i false off ∙ append-nil (filter p (upto i))
