-- The supports, from the columns of the results.
use Rattle.std.proofs.Common.{◌≡◌, ⊎_elim, ℕ, zero, suc, ◌+◌, ◌<◌, Bool, true, false, cond, ◌||◌, List, [], ◌∷◌, ◌++◌, map, length, get_or, refl, ap, sym, ◌∙◌, arith, eqb, ltb, nat_lt}
use Rattle.std.specs.Prelude.{filter, ◌↔◌}
use Rattle.std.specs.List.{list_all}
use Rattle.std.proofs.lemmas.Bool.{and_parts, and_from, cases_lt, eq-eqb, eqb-true, lt-ltb, ltb-true, or_cases, or_left, or_right, false≢true}
use Rattle.std.proofs.lemmas.List.{map-append}
use Rattle.polis_base.specs.Lists.{upto}
use Rattle.polis_base.proofs.Lists.{upto_all, all_append}
use Rattle.domains.specs.Tables.{are_sizes, RanksReach}
use Rattle.transition_table.specs.declared.machine.Machine.{Machine}
use Rattle.transition_table.specs.Transitions.{IsDeterministic}
use Rattle.domains.specs.AllCodes.{all_codes}
use Rattle.decision_diagram.specs.Sets.{stands}
use Rattle.transition_table.specs.Computed.{supports, support_of, all_supports, result_code}
use Rattle.char_function.specs.inner.Columns.{varies}
use Rattle.transition_table.specs.Laws.{SupportByTest}
use Rattle.char_function.specs.Supported.{rises, AreSupports}
use Rattle.decision_diagram.proofs.ListItems.{read}
use Rattle.char_function.proofs.Varies.{varies_moves}
use Rattle.polis_base.proofs.ListTests.{filter_append}
use Rattle.polis_base.proofs.Places.{get_map, length_map}
use Rattle.polis_base.proofs.UptoPlaces.{get_upto, length_upto}

pub all_weaken : {X : Type 0} (p q : X → Bool) (xs : List X) → list_all p xs ≡ true
    → ((x : X) → p x ≡ true → q x ≡ true) → list_all q xs ≡ true
all_weaken p q [] all go = refl
all_weaken p q (x ∷ xs) all go =
    let parts = and_parts (p x) (list_all p xs) all in
    and_from (q x) (list_all q xs) (go x parts.0) (all_weaken p q xs parts.1 go)

pub filter_same : {X : Type 0} (r p q : X → Bool) (xs : List X) → list_all r xs ≡ true
    → ((x : X) → r x ≡ true → p x ≡ q x) → filter p xs ≡ filter q xs
filter_same r p q [] all same = refl
filter_same {X = X} r p q (x ∷ xs) all same =
    let parts = and_parts (r x) (list_all r xs) all in
    ap (λ (b : Bool). cond b (x ∷ filter p xs) (filter p xs)) (same x parts.0)
    ∙ ap (λ (ys : List X). cond (q x) (x ∷ ys) ys) (filter_same r p q xs parts.1 same)

pub below_upto : (n : ℕ) → list_all (λ k. ltb k n) (upto n) ≡ true
below_upto n = upto_all (λ k. ltb k n) n (λ k low. lt-ltb k n low)

-- what the column of a result varies with is its support
pub column_support : RanksReach → (m : Machine) → are_sizes m.vars ≡ true → (y : ℕ)
    → filter (λ v. varies m.vars v (map (result_code m y) (all_codes m.vars)))
    (upto (length m.vars)) ≡ support_of m y
column_support reach m sized y =
    filter_same (λ v. ltb v (length m.vars))
    (λ v. varies m.vars v (map (result_code m y) (all_codes m.vars))) (supports m y)
    (upto (length m.vars)) (below_upto (length m.vars)) (λ v low.
    varies_moves reach (result_code m y) m.vars v sized (ltb-true v (length m.vars) low))

pub supports_more : (m : Machine) (y : ℕ)
    → map (support_of m) (upto (y + 1)) ≡ map (support_of m) (upto y) ++ support_of m y ∷ []
supports_more m y =
    let e : y + 1 ≡ suc y = omega arith in
    ap (λ (n : ℕ). map (support_of m) (upto n)) e ∙ map-append (support_of m) (upto y) (y ∷ [])

-- ---- exactly the supports

pub support_at : (m : Machine) (y : ℕ) → y < length m.results
    → get_or (all_supports m) y [] ≡ support_of m y
support_at m y low =
    read (all_supports m) y (support_of m y) []
    (get_map (support_of m) (upto (length m.results)) y y (get_upto (length m.results) y low))

pub filter_all : {X : Type 0} (p r : X → Bool) (xs : List X) → list_all r xs ≡ true
    → list_all r (filter p xs) ≡ true
filter_all p r [] all = refl
filter_all p r (x ∷ xs) all =
    let parts = and_parts (r x) (list_all r xs) all in
    one (p x) parts.0 (filter_all p r xs parts.1)
  where
    one : (b : Bool) → r x ≡ true → list_all r (filter p xs) ≡ true
        → list_all r (cond b (x ∷ filter p xs) (filter p xs)) ≡ true
    one true here rest = and_from (r x) (list_all r (filter p xs)) here rest
    one false here rest = rest

rises_push : (xs : List ℕ) (n : ℕ) → rises xs ≡ true → list_all (λ k. ltb k n) xs ≡ true
    → rises (xs ++ n ∷ []) ≡ true
rises_push [] n up low = refl
rises_push (x ∷ xs) n up low =
    let a = and_parts (list_all (nat_lt x) xs) (rises xs) up in
    let b = and_parts (ltb x n) (list_all (λ k. ltb k n) xs) low in
    and_from (list_all (nat_lt x) (xs ++ n ∷ [])) (rises (xs ++ n ∷ []))
    (all_append (nat_lt x) xs (n ∷ []) a.0 (and_from (nat_lt x n) true b.0 refl))
    (rises_push xs n a.1 b.1)

pub rises_filter : (p : ℕ → Bool) (n : ℕ) → rises (filter p (upto n)) ≡ true
rises_filter p zero = refl
rises_filter p (suc n) = ap rises (filter_append p (upto n) (n ∷ [])) ∙ one (p n) (rises_filter p n)
  where
    none : (xs : List ℕ) → xs ++ [] ≡ xs
    none [] = refl
    none (x ∷ xs) = ap (λ (ys : List ℕ). x ∷ ys) (none xs)

    one : (b : Bool) → rises (filter p (upto n)) ≡ true
        → rises (filter p (upto n) ++ cond b (n ∷ []) []) ≡ true
    one true before =
        rises_push (filter p (upto n)) n before
        (filter_all p (λ k. ltb k n) (upto n) (below_upto n))
    one false before = ap rises (none (filter p (upto n))) ∙ before

pub stands_both : (xs ys : List ℕ) (v : ℕ) → stands (xs ++ ys) v ≡ (stands xs v || stands ys v)
stands_both [] ys v = refl
stands_both (x ∷ xs) ys v = ap (λ (b : Bool). eqb x v || b) (stands_both xs ys v)
    ∙ assoc (eqb x v) (stands xs v) (stands ys v)
  where
    assoc : (a b c : Bool) → (a || (b || c)) ≡ ((a || b) || c)
    assoc true b c = refl
    assoc false b c = refl

pub stands_filter : (p : ℕ → Bool) (xs : List ℕ) (v : ℕ) → stands (filter p xs) v ≡ true
    → (stands xs v ≡ true) × (p v ≡ true)
stands_filter p [] v h = absurd (false≢true h)
stands_filter p (x ∷ xs) v h = one (p x) refl h (λ rest. stands_filter p xs v rest)
  where
    later : (stands xs v ≡ true) × (p v ≡ true) → (stands (x ∷ xs) v ≡ true) × (p v ≡ true)
    later rest = (or_right (eqb x v) (stands xs v) rest.0, rest.1)

    one : (b : Bool) → p x ≡ b → stands (cond b (x ∷ filter p xs) (filter p xs)) v ≡ true
        → (stands (filter p xs) v ≡ true → (stands xs v ≡ true) × (p v ≡ true))
        → (stands (x ∷ xs) v ≡ true) × (p v ≡ true)
    one true on h go =
        ⊎_elim
        (λ here. (or_left (eqb x v) (stands xs v) here, ap p (sym (eqb-true x v here)) ∙ on))
        (λ rest. later (go rest))
        (or_cases (eqb x v) (stands (filter p xs) v) h)
    one false off h go = later (go h)

pub filter_stands : (p : ℕ → Bool) (xs : List ℕ) (v : ℕ) → stands xs v ≡ true → p v ≡ true
    → stands (filter p xs) v ≡ true
filter_stands p [] v h on = absurd (false≢true h)
filter_stands p (x ∷ xs) v h on =
    ⊎_elim
    (λ here. let same : x ≡ v = eqb-true x v here in
    ap (λ (b : Bool). stands (cond b (x ∷ filter p xs) (filter p xs)) v) (ap p same ∙ on)
    ∙ or_left (eqb x v) (stands (filter p xs) v) here)
    (λ later. one (p x) (filter_stands p xs v later on))
    (or_cases (eqb x v) (stands xs v) h)
  where
    one : (b : Bool) → stands (filter p xs) v ≡ true
        → stands (cond b (x ∷ filter p xs) (filter p xs)) v ≡ true
    one true rest = or_right (eqb x v) (stands (filter p xs) v) rest
    one false rest = rest

pub stands_upto : (n v : ℕ) → (stands (upto n) v ≡ true) ↔ (v < n)
stands_upto n v = (to n, from n)
  where
    to : (n : ℕ) → stands (upto n) v ≡ true → v < n
    to zero h = absurd (false≢true h)
    to (suc n) h =
        ⊎_elim
        (λ front. let low = to n front in omega arith)
        (λ last. let e : n ≡ v = ⊎_elim (λ here. eqb-true n v here)
        (λ none. absurd (false≢true none)) (or_cases (eqb n v) false last) in omega arith)
        (or_cases (stands (upto n) v) (eqb n v || false)
        (sym (stands_both (upto n) (n ∷ []) v) ∙ h))

    from : (n : ℕ) → v < n → stands (upto n) v ≡ true
    from zero low = absurd (omega arith)
    from (suc n) low =
        stands_both (upto n) (n ∷ []) v
        ∙ ⊎_elim
        (λ less. or_left (stands (upto n) v) (eqb n v || false) (from n less))
        (λ more. or_right (stands (upto n) v) (eqb n v || false)
        (or_left (eqb n v) false (eq-eqb n v (let e : n ≡ v = omega arith in e))))
        (cases_lt v n)

pub are_supports : SupportByTest → (m : Machine) → IsDeterministic m
    → AreSupports m (all_supports m)
are_supports test m sure = record {
  long = length_map (support_of m) (upto (length m.results)) ∙ length_upto (length m.results);
  rising = λ y low. ap rises (support_at m y low) ∙ rises_filter (supports m y) (length m.vars);
  exact = λ y v low.
      let e = support_at m y low in (
        λ on.
            let parts = stands_filter (supports m y) (upto (length m.vars)) v (rw e at on) in
            let inside = (stands_upto (length m.vars) v).0 parts.0 in
            (inside, (test m y v sure inside).0 parts.1),
        λ both. rw e (filter_stands (supports m y) (upto (length m.vars)) v
            ((stands_upto (length m.vars) v).1 both.0) ((test m y v sure both.0).1 both.1)),
      );
}
