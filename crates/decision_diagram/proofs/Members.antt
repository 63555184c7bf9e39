-- How many different functions a list has depends on its members alone.
use Rattle.std.proofs.Common.{◌≡◌, ⊎_elim, ℕ, ◌+◌, ◌*◌, ◌<◌, ◌≤◌, Bool, true, false, cond, ◌&&◌, ◌||◌, List, [], ◌∷◌, map, refl, ap, sym, subst, ◌∙◌, arith, eqb}
use Rattle.std.specs.Prelude.{filter}
use Rattle.std.specs.List.{list_all, list_any}
use Rattle.std.proofs.lemmas.Bool.{and_parts, cases_Bool, eqb-true, eq-eqb, true≢false, or_cases}
use Rattle.decision_diagram.specs.Truths.{same_truth, same_truths, different}
use Rattle.decision_diagram.proofs.Distinct.{Every, differing, differing_count, count_same, truths_self, truth_equal}
use Rattle.polis_base.proofs.Bools.{same_truth as same_if}

pub truths_equal : (us vs : List Bool) → same_truths us vs ≡ true → us ≡ vs
truths_equal [] [] h = refl
truths_equal [] (v ∷ vs) h = absurd (true≢false (sym h))
truths_equal (u ∷ us) [] h = absurd (true≢false (sym h))
truths_equal (u ∷ us) (v ∷ vs) h =
    let parts = and_parts (same_truth u v) (same_truths us vs) h in
    ap (λ (b : Bool). b ∷ us) (truth_equal u v parts.0)
    ∙ ap (λ (bs : List Bool). v ∷ bs) (truths_equal us vs parts.1)

-- truth values as a number
as_number : List Bool → ℕ
as_number [] = 1
as_number (true ∷ bs) = 2 * as_number bs + 1
as_number (false ∷ bs) = 2 * as_number bs

some_number : (bs : List Bool) → 1 ≤ as_number bs
unfolding as_number
some_number [] = omega arith
some_number (true ∷ bs) = omega arith
some_number (false ∷ bs) = let r = some_number bs in omega arith

same_number : (us vs : List Bool) → as_number us ≡ as_number vs → us ≡ vs
unfolding as_number
same_number [] [] e = refl
same_number [] (true ∷ vs) e = absurd (let r = some_number vs in omega arith)
same_number [] (false ∷ vs) e = absurd (let r = some_number vs in omega arith)
same_number (true ∷ us) [] e = absurd (let r = some_number us in omega arith)
same_number (false ∷ us) [] e = absurd (let r = some_number us in omega arith)
same_number (true ∷ us) (true ∷ vs) e =
    ap (λ (bs : List Bool). true ∷ bs) (same_number us vs (omega arith))
same_number (true ∷ us) (false ∷ vs) e = absurd (omega arith)
same_number (false ∷ us) (true ∷ vs) e = absurd (omega arith)
same_number (false ∷ us) (false ∷ vs) e =
    ap (λ (bs : List Bool). false ∷ bs) (same_number us vs (omega arith))

test_number : (us vs : List Bool) → same_truths us vs ≡ eqb (as_number us) (as_number vs)
test_number us vs =
    same_if (same_truths us vs) (eqb (as_number us) (as_number vs))
    (λ on. eq-eqb (as_number us) (as_number vs) (ap as_number (truths_equal us vs on)))
    (λ on. ap (same_truths us) (sym (same_number us vs (eqb-true (as_number us) (as_number vs) on)))
    ∙ truths_self us)

any_number : (u : List Bool) (vs : List (List Bool))
    → list_any (same_truths u) vs ≡ list_any (eqb (as_number u)) (map as_number vs)
any_number u [] = refl
any_number u (v ∷ vs) = ap (λ (b : Bool). b || list_any (same_truths u) vs) (test_number u v)
    ∙ ap (λ (b : Bool). eqb (as_number u) (as_number v) || b) (any_number u vs)

different_numbers : (us : List (List Bool)) → different us ≡ differing (map as_number us)
different_numbers [] = refl
different_numbers (u ∷ us) = ap (λ (b : Bool). cond {A = ℕ} b 0 1 + different us) (any_number u us)
    ∙ ap (λ (n : ℕ). cond {A = ℕ} (list_any (eqb (as_number u)) (map as_number us)) 0 1 + n)
    (different_numbers us)

-- a bound
total : List ℕ → ℕ
total [] = 0
total (n ∷ ns) = n + total ns

every_below : (ns : List ℕ) (bound : ℕ) → total ns < bound → Every (λ n. n < bound) ns
unfolding total
every_below [] bound less = tt
every_below (n ∷ ns) bound less = (omega arith, every_below ns bound (omega arith))

-- every one of these is among those
abbrev pub Within : List (List Bool) → List (List Bool) → Type 0
Within us vs = Every (λ u. list_any (same_truths u) vs ≡ true) us

found : (us vs : List (List Bool)) (m : ℕ) → Within us vs
    → list_any (eqb m) (map as_number us) ≡ true → list_any (eqb m) (map as_number vs) ≡ true
found [] vs m all h = absurd (true≢false (sym h))
found (u ∷ us) vs m all h =
    ⊎_elim
    (λ here. let e : m ≡ as_number u = eqb-true m (as_number u) here in
    rw e (sym (any_number u vs) ∙ all.0))
    (λ later. found us vs m all.1 later)
    (or_cases (eqb m (as_number u)) (list_any (eqb m) (map as_number us)) h)

pub different_members : (us vs : List (List Bool)) → Within us vs → Within vs us
    → different us ≡ different vs
different_members us vs one other =
    let bound : ℕ = total (map as_number us) + total (map as_number vs) + 1 in
    different_numbers us
    ∙ differing_count (map as_number us) bound (every_below (map as_number us) bound (omega arith))
    ∙ count_same (λ m. list_any (eqb m) (map as_number us))
    (λ m. list_any (eqb m) (map as_number vs)) bound
    (λ k low. same_if (list_any (eqb k) (map as_number us))
    (list_any (eqb k) (map as_number vs)) (found us vs k one) (found vs us k other))
    ∙ sym (differing_count (map as_number vs) bound
    (every_below (map as_number vs) bound (omega arith)))
    ∙ sym (different_numbers vs)

-- two ways to list functions, where the ones are equal exactly where the others are
pub different_alike : {X : Type 0} (P : X → Type 0) (A B : X → List Bool)
    → ((a b : X) → P a → P b → same_truths (A a) (A b) ≡ same_truths (B a) (B b)) → (xs : List X)
    → Every P xs → different (map A xs) ≡ different (map B xs)
different_alike P A B same [] all = refl
different_alike {X = X} P A B same (x ∷ xs) all =
    ap (λ (b : Bool). cond {A = ℕ} b 0 1 + different (map A xs)) (any xs all.1)
    ∙ ap (λ (n : ℕ). cond {A = ℕ} (list_any (same_truths (B x)) (map B xs)) 0 1 + n)
    (different_alike P A B same xs all.1)
  where
    any : (ys : List X) → Every P ys → list_any (same_truths (A x)) (map A ys)
        ≡ list_any (same_truths (B x)) (map B ys)
    any [] in_ys = refl
    any (y ∷ ys) in_ys =
        ap (λ (b : Bool). b || list_any (same_truths (A x)) (map A ys)) (same x y all.0 in_ys.0)
        ∙ ap (λ (b : Bool). same_truths (B x) (B y) || b) (any ys in_ys.1)

-- members of a filtered map
pub any_filtered : {X : Type 0} (q : List Bool → Bool) (T : X → List Bool) (d : X → Bool)
    (xs : List X) → list_any q (map T (filter d xs)) ≡ list_any (λ x. d x && q (T x)) xs
any_filtered q T d [] = refl
any_filtered q T d (x ∷ xs) =
    ⊎_elim
    (λ on.
    ap (λ (b : Bool). list_any q (map T (cond b (x ∷ filter d xs) (filter d xs)))) on
    ∙ ap (λ (b : Bool). q (T x) || b) (any_filtered q T d xs)
    ∙ sym (ap (λ (b : Bool). (b && q (T x)) || list_any (λ x. d x && q (T x)) xs) on))
    (λ off.
    ap (λ (b : Bool). list_any q (map T (cond b (x ∷ filter d xs) (filter d xs)))) off
    ∙ any_filtered q T d xs
    ∙ sym (ap (λ (b : Bool). (b && q (T x)) || list_any (λ x. d x && q (T x)) xs) off))
    (cases_Bool (d x))

pub every_filtered : {X : Type 0} (p d : X → Bool) (xs : List X) → list_all p xs ≡ true
    → Every (λ x. (p x ≡ true) × (d x ≡ true)) (filter d xs)
every_filtered p d [] all = tt
every_filtered {X = X} p d (x ∷ xs) all =
    let parts = and_parts (p x) (list_all p xs) all in
    ⊎_elim
    (λ on. subst (λ (b : Bool). Every (λ (x : X). (p x ≡ true) × (d x ≡ true))
    (cond b (x ∷ filter d xs) (filter d xs))) (sym on)
    ((parts.0, on), every_filtered p d xs parts.1))
    (λ off. subst (λ (b : Bool). Every (λ (x : X). (p x ≡ true) × (d x ≡ true))
    (cond b (x ∷ filter d xs) (filter d xs))) (sym off) (every_filtered p d xs parts.1))
    (cases_Bool (d x))

pub every_mapped : {X : Type 0} (P : X → Type 0) (Q : List Bool → Type 0) (T : X → List Bool)
    (xs : List X) → Every P xs → ((x : X) → P x → Q (T x)) → Every Q (map T xs)
every_mapped P Q T [] all go = tt
every_mapped P Q T (x ∷ xs) all go = (go x all.0, every_mapped P Q T xs all.1 go)
