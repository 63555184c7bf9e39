-- Lists in which no item stands twice.
use Rattle.std.proofs.Common.{◌≡◌, ⊎_elim, ℕ, zero, suc, ◌-◌, ◌<◌, ◌≤◌, true, false, not, ◌==◌, List, [], ◌∷◌, ◌++◌, map, length, slice_get, Some, refl, ap, sym, ◌∙◌, arith}
use Rattle.std.specs.List.{list_any}
use Rattle.std.proofs.lemmas.Bool.{and_parts, and_from, eq-eqb, cases_lt, not-true}
use Rattle.domains.specs.Names.{is_same, are_distinct}
use Rattle.transition_table.specs.NetworkFacts.{has, are_different}
use Rattle.task_code.proofs.Labels.{behind}
use Rattle.order_sift.proofs.Different.{any_item}
use Rattle.polis_base.proofs.Places.{get_left}

-- ---- items of lists

pub mapped : {X Y : Type 0} (f : X → Y) (xs : List X) (i : ℕ) (y : Y)
    → slice_get (map f xs) i ≡ Some y → (x : X) × (slice_get xs i ≡ Some x) × (f x ≡ y)
mapped f [] i y e = cc
mapped f (x ∷ xs) zero y e = let h : f x ≡ y = cc in (x, refl, h)
mapped f (x ∷ xs) (suc i) y e = mapped f xs i y e

-- ---- no item twice
abbrev pub Apart : {X : Type 0} → List X → Type 0
Apart {X} xs = (i j : ℕ) (x : X) → slice_get xs i ≡ Some x → slice_get xs j ≡ Some x → i ≡ j

-- no item of one is in the other
abbrev pub Disjoint : {X : Type 0} → List X → List X → Type 0
Disjoint {X} xs ys = (i j : ℕ) (x : X) → slice_get xs i ≡ Some x → slice_get ys j ≡ Some x → ⊥

pub apart_both : {X : Type 0} (xs ys : List X) → Apart xs → Apart ys → Disjoint xs ys
    → Apart (xs ++ ys)
apart_both {X = X} xs ys ax ay none i j x ei ej =
    ⊎_elim (λ low. ⊎_elim (first low) (second low) (cases_lt j n))
    (λ high. ⊎_elim (third high) (fourth high) (cases_lt j n)) (cases_lt i n)
  where
    n : ℕ
    n = length xs

    at_first : (k : ℕ) → k < length xs → slice_get (xs ++ ys) k ≡ Some x → slice_get xs k ≡ Some x
    at_first k low e = sym (get_left xs ys k low) ∙ e

    at_second : (k : ℕ) → length xs ≤ k → slice_get (xs ++ ys) k ≡ Some x
        → slice_get ys (k - length xs) ≡ Some x
    at_second k high e = sym (behind xs ys k (k - length xs) (omega arith)) ∙ e

    first : i < length xs → j < length xs → i ≡ j
    first li lj = ax i j x (at_first i li ei) (at_first j lj ej)

    second : i < length xs → length xs ≤ j → i ≡ j
    second li hj = absurd (none i (j - length xs) x (at_first i li ei) (at_second j hj ej))

    third : length xs ≤ i → j < length xs → i ≡ j
    third hi lj = absurd (none j (i - length xs) x (at_first j lj ej) (at_second i hi ei))

    fourth : length xs ≤ i → length xs ≤ j → i ≡ j
    fourth hi hj =
        let e : i - length xs ≡ j - length xs =
        ay (i - length xs) (j - length xs) x (at_second i hi ei) (at_second j hj ej) in
        omega arith

-- under a function that tells the items apart
pub apart_mapped : {X Y : Type 0} (f : X → Y) (xs : List X) → Apart xs
    → ((i j : ℕ) (x y : X) → slice_get xs i ≡ Some x → slice_get xs j ≡ Some y → f x ≡ f y → x ≡ y)
    → Apart (map f xs)
apart_mapped f xs apart tells i j y ei ej =
    let a = mapped f xs i y ei in
    let b = mapped f xs j y ej in
    let same : a.0 ≡ b.0 = tells i j a.0 b.0 a.1 b.1 (a.2 ∙ sym b.2) in
    apart i j b.0 (a.1 ∙ ap (λ z. Some z) same) b.1

has_not : (names : List (List ℕ)) (name : List ℕ) → not (list_any (is_same name) names) ≡ true
    → (j : ℕ) → slice_get names j ≡ Some name → ⊥
has_not names name differs j e =
    let h : list_any (is_same name) names ≡ true =
    any_item (is_same name) names j name e (same_self name) in
    let g : true ≡ false = sym h ∙ not-true (list_any (is_same name) names) differs in
    cc
  where
    same_self : (xs : List ℕ) → is_same xs xs ≡ true
    same_self [] = refl
    same_self (x ∷ xs) = and_from (x == x) (is_same xs xs) (eq-eqb x x refl) (same_self xs)

-- so it is of distinct names and of different numbers
pub distinct_apart : (names : List (List ℕ)) → are_distinct names ≡ true → Apart names
distinct_apart [] h i j x ei ej = cc
distinct_apart (name ∷ names) h zero zero x ei ej = refl
distinct_apart (name ∷ names) h zero (suc j) x ei ej =
    let f : x ≡ name = cc in
    absurd (has_not names name
    (and_parts (not (list_any (is_same name) names)) (are_distinct names) h).0 j
    (ej ∙ ap (λ z. Some z) f))
distinct_apart (name ∷ names) h (suc i) zero x ei ej =
    let f : x ≡ name = cc in
    absurd (has_not names name
    (and_parts (not (list_any (is_same name) names)) (are_distinct names) h).0 i
    (ei ∙ ap (λ z. Some z) f))
distinct_apart (name ∷ names) h (suc i) (suc j) x ei ej =
    ap suc (distinct_apart names
    (and_parts (not (list_any (is_same name) names)) (are_distinct names) h).1 i j x ei ej)

lists_not : (numbers : List ℕ) (n : ℕ) → not (has numbers n) ≡ true → (j : ℕ)
    → slice_get numbers j ≡ Some n → ⊥
lists_not numbers n differs j e =
    let h : has numbers n ≡ true = any_item (λ (k : ℕ). k == n) numbers j n e (eq-eqb n n refl) in
    let g : true ≡ false = sym h ∙ not-true (has numbers n) differs in
    cc

pub different_apart : (numbers : List ℕ) → are_different numbers ≡ true → Apart numbers
different_apart [] h i j x ei ej = cc
different_apart (n ∷ numbers) h zero zero x ei ej = refl
different_apart (n ∷ numbers) h zero (suc j) x ei ej =
    let f : x ≡ n = cc in
    absurd (lists_not numbers n (and_parts (not (has numbers n)) (are_different numbers) h).0 j
    (ej ∙ ap (λ z. Some z) f))
different_apart (n ∷ numbers) h (suc i) zero x ei ej =
    let f : x ≡ n = cc in
    absurd (lists_not numbers n (and_parts (not (has numbers n)) (are_different numbers) h).0 i
    (ei ∙ ap (λ z. Some z) f))
different_apart (n ∷ numbers) h (suc i) (suc j) x ei ej =
    ap suc (different_apart numbers (and_parts (not (has numbers n)) (are_different numbers) h).1 i
    j x ei ej)
