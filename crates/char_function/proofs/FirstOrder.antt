-- The first order is a permutation in which each result stands after its support.
use Rattle.std.proofs.Common.{◌≡◌, ⊎_elim, ℕ, zero, suc, ◌+◌, ◌-◌, ◌*◌, ◌<◌, ◌≤◌, Bool, true, false, cond, ◌==◌, List, [], ◌∷◌, ◌++◌, map, flat_map, length, slice_index, get_or, refl, ap, sym, subst, ◌∙◌, arith, eqb, ltb, nat_lt, length-append}
use Rattle.std.specs.Prelude.{filter}
use Rattle.std.specs.List.{list_all}
use Rattle.std.proofs.Math.Nat.{le-max_left, le-max_right, max-le}
use Rattle.std.proofs.lemmas.Bool.{and_parts, and_from, cases_Bool, cases_lt, cases_eq, eq-eqb, ne_eqb, eqb-true, lt-ltb, ltb-true, or_cases, or_left, or_right, false≢true}
use Rattle.std.proofs.lemmas.List.{map-append}
use Rattle.polis_base.specs.Lists.{upto}
use Rattle.polis_base.proofs.Lists.{all_append, upto_all}
use Rattle.transition_table.specs.declared.machine.Machine.{Machine}
use Rattle.transition_table.specs.Transitions.{IsDeterministic}
use Rattle.domains.specs.Orders.{IsPermutation, place}
use Rattle.decision_diagram.specs.Sets.{stands}
use Rattle.transition_table.specs.Orders.{Allowed, sizes_of}
use Rattle.transition_table.specs.Computed.{supports, support_of, all_supports}
use Rattle.char_function.specs.Orders.{reach, reach_at, results_after, interleaved, first_order, AreOfMachine}
use Rattle.char_function.specs.inner.Orders.{stands_after}
use Rattle.transition_table.specs.Laws.{SupportByTest}
use Rattle.transition_table.proofs.FewItems.{few_items}
use Rattle.decision_diagram.proofs.AllCodes.{all_flat, all_map}
use Rattle.char_function.proofs.AreSupports.{all_weaken, below_upto, filter_all, support_at, are_supports}
use Rattle.domains.proofs.Places.{at_place, place_below}
use Rattle.polis_base.proofs.ListTests.{filter_append}
use Rattle.polis_base.proofs.Places.{flat_map_push, length_map}
use Rattle.polis_base.proofs.UptoPlaces.{length_upto}

-- ---- reach
pub reach_over : (support : List ℕ) (v : ℕ) → stands support v ≡ true → v + 1 ≤ reach support
reach_over [] v h = absurd (false≢true h)
reach_over (x ∷ xs) v h =
    let a = le-max_left (x + 1) (reach xs) in
    let b = le-max_right (x + 1) (reach xs) in
    ⊎_elim
    (λ here. let e : x ≡ v = eqb-true x v here in omega arith)
    (λ later. let r = reach_over xs v later in omega arith)
    (or_cases (eqb x v) (stands xs v) h)

pub reach_within : (n : ℕ) (support : List ℕ) → list_all (λ v. ltb v n) support ≡ true
    → reach support ≤ n
reach_within n [] all = omega arith
reach_within n (x ∷ xs) all =
    let parts = and_parts (ltb x n) (list_all (λ v. ltb v n) xs) all in
    let low = ltb-true x n parts.0 in
    max-le (omega arith) (reach_within n xs parts.1)

not_less : (a b : ℕ) → b ≤ a → ltb a b ≡ false
not_less a b h =
    ⊎_elim (λ on. absurd (let l = ltb-true a b on in omega arith)) (λ off. off)
    (cases_Bool (ltb a b))

-- ---- lists whose keys rise
abbrev Up : (ℕ → ℕ) → ℕ → List ℕ → ℕ → Type 0
Up key low [] high = low ≤ high
Up key low (x ∷ xs) high = (low ≤ key x) × Up key (key x + 1) xs high

up_from : (key : ℕ → ℕ) (less low : ℕ) (xs : List ℕ) (high : ℕ) → less ≤ low → Up key low xs high
    → Up key less xs high
up_from key less low [] high h up = omega arith
up_from key less low (x ∷ xs) high h up = (let first : low ≤ key x = up.0 in omega arith, up.1)

up_append : (key : ℕ → ℕ) (low middle high : ℕ) (xs ys : List ℕ) → Up key low xs middle
    → Up key middle ys high → Up key low (xs ++ ys) high
up_append key low middle high [] ys one two = up_from key low middle ys high one two
up_append key low middle high (x ∷ xs) ys one two =
    (one.0, up_append key (key x + 1) middle high xs ys one.1 two)

up_low : (key : ℕ → ℕ) (low high : ℕ) (xs : List ℕ) → Up key low xs high → (i : ℕ) → i < length xs
    → low ≤ key (slice_index xs i)
up_low key low high [] up i inside = absurd (omega arith)
up_low key low high (x ∷ xs) up zero inside = up.0
up_low key low high (x ∷ xs) up (suc i) inside = let r =
    up_low key (key x + 1) high xs up.1 i (omega arith) in let first : low ≤ key x = up.0 in
    omega arith

up_apart : (key : ℕ → ℕ) (low high : ℕ) (xs : List ℕ) → Up key low xs high → (i j : ℕ) → i < j
    → j < length xs → key (slice_index xs i) < key (slice_index xs j)
up_apart key low high [] up i j less inside = absurd (omega arith)
up_apart key low high (x ∷ xs) up i zero less inside = absurd (omega arith)
up_apart key low high (x ∷ xs) up zero (suc j) less inside = let r =
    up_low key (key x + 1) high xs up.1 j (omega arith) in omega arith
up_apart key low high (x ∷ xs) up (suc i) (suc j) less inside =
    up_apart key (key x + 1) high xs up.1 i j (omega arith) (omega arith)

-- ---- the keys of variables and results
module _ (n : ℕ) (sup : List (List ℕ)) where
  abbrev w : ℕ
  w = length sup + 1

  abbrev is_at : ℕ → ℕ → Bool
  is_at k y = reach_at sup y == k

  key : ℕ → ℕ
  key x = cond (ltb x n) ((x + 1) * w) (reach_at sup (x - n) * w + (x - n) + 1)

  key_var : (v : ℕ) → v < n → key v ≡ (v + 1) * w
  unfolding key
  key_var v low =
      ap (λ (b : Bool). cond {A = ℕ} b ((v + 1) * w) (reach_at sup (v - n) * w + (v - n) + 1))
      (lt-ltb v n low)

  key_result : (y : ℕ) → key (n + y) ≡ reach_at sup y * w + y + 1
  unfolding key
  key_result y =
      let off : ltb (n + y) n ≡ false = not_less (n + y) n (omega arith) in
      let e : n + y - n ≡ y = omega arith in
      ap (λ (b : Bool). cond {A = ℕ} b ((n + y + 1) * w)
      (reach_at sup (n + y - n) * w + (n + y - n) + 1)) off
      ∙ ap (λ (i : ℕ). reach_at sup i * w + i + 1) e

  behind_up : (k r : ℕ)
      → Up key (k * w + 1) (map (λ y. n + y) (filter (is_at k) (upto r))) (k * w + r + 1)
  behind_up k zero = omega arith
  behind_up k (suc r) =
      let whole : map (λ y. n + y) (filter (is_at k) (upto (suc r)))
      ≡ map (λ y. n + y) (filter (is_at k) (upto r))
      ++ map (λ y. n + y) (filter (is_at k) (r ∷ [])) =
      ap (map (λ (y : ℕ). n + y)) (filter_append (is_at k) (upto r) (r ∷ []))
      ∙ map-append (λ (y : ℕ). n + y) (filter (is_at k) (upto r)) (filter (is_at k) (r ∷ [])) in
      subst (λ (xs : List ℕ). Up key (k * w + 1) xs (k * w + suc r + 1)) (sym whole)
      (up_append key (k * w + 1) (k * w + r + 1) (k * w + suc r + 1)
      (map (λ y. n + y) (filter (is_at k) (upto r)))
      (map (λ y. n + y) (filter (is_at k) (r ∷ []))) (behind_up k r) (one (is_at k r) refl))
    where
      one : (b : Bool) → is_at k r ≡ b
          → Up key (k * w + r + 1) (map (λ y. n + y) (cond b (r ∷ []) [])) (k * w + suc r + 1)
      one true on =
          let at : reach_at sup r ≡ k = eqb-true (reach_at sup r) k on in
          let e = key_result r in
          let f : reach_at sup r * w ≡ k * w = ap (λ (i : ℕ). i * w) at in
          (omega arith, omega arith)
      one false off = omega arith

  abbrev section : ℕ → List ℕ
  section v = v ∷ results_after n sup (v + 1)

  section_up : (v : ℕ) → v < n → Up key ((v + 1) * w) (section v) ((v + 1 + 1) * w)
  section_up v low =
      let e = key_var v low in
      let rest = behind_up (v + 1) (length sup) in
      let high : (v + 1) * w + length sup + 1 ≡ (v + 1 + 1) * w = omega arith in (
        omega arith,
        rw (sym high)
            (subst (λ (low : ℕ). Up key low (results_after n sup (v + 1))
            ((v + 1) * w + length sup + 1)) (let f : (v + 1) * w + 1 ≡ key v + 1 = omega arith in
            f) rest),
      )

  sections_up : (j : ℕ) → j ≤ n → Up key w (flat_map section (upto j)) ((j + 1) * w)
  sections_up zero low = let e : (0 + 1) * w ≡ w = omega arith in omega arith
  sections_up (suc j) low =
      let e : suc j ≡ j + 1 = omega arith in
      subst (λ (xs : List ℕ). Up key w xs ((suc j + 1) * w)) (sym (flat_map_push section (upto j) j))
      (up_append key w ((j + 1) * w) ((suc j + 1) * w) (flat_map section (upto j)) (section j)
      (sections_up j (omega arith)) (rw e (section_up j (omega arith))))

  all_up : Up key 1 (interleaved n sup) ((n + 1) * w)
  all_up =
      let first = behind_up 0 (length sup) in
      let low : 0 * w + 1 ≡ 1 = omega arith in
      let high : 0 * w + length sup + 1 ≡ w = omega arith in
      up_append key 1 w ((n + 1) * w) (results_after n sup 0) (flat_map section (upto n))
      (rw (low, high) at first)
      (sections_up n (omega arith))

  -- ---- how many there are
  abbrev is_below : ℕ → ℕ → Bool
  is_below k y = ltb (reach_at sup y) k

  split : (k : ℕ) (ys : List ℕ) → length (filter (is_below k) ys) + length (filter (is_at k) ys)
      ≡ length (filter (is_below (suc k)) ys)
  split k [] = refl
  split k (y ∷ ys) = one (reach_at sup y) (split k ys)
    where
      one : (r : ℕ) → length (filter (is_below k) ys) + length (filter (is_at k) ys)
          ≡ length (filter (is_below (suc k)) ys)
          → length (cond (ltb r k) (y ∷ filter (is_below k) ys) (filter (is_below k) ys))
          + length (cond (eqb r k) (y ∷ filter (is_at k) ys) (filter (is_at k) ys))
          ≡ length (cond (ltb r (suc k)) (y ∷ filter (is_below (suc k)) ys)
          (filter (is_below (suc k)) ys))
      one r rest =
          ⊎_elim
          (λ less.
          let a = lt-ltb r k less in
          let b = ne_eqb r k (λ e. absurd (omega arith)) in
          let c = lt-ltb r (suc k) (omega arith) in
          rw (a, b, c) (omega arith))
          (λ more.
          ⊎_elim
          (λ same.
          let a = not_less r k (omega arith) in
          let b = eq-eqb r k same in
          let c = lt-ltb r (suc k) (omega arith) in
          rw (a, b, c) (omega arith))
          (λ other.
          let a = not_less r k (omega arith) in
          let b = ne_eqb r k other in
          let c = not_less r (suc k) (omega arith) in
          rw (a, b, c) rest)
          (cases_eq r k))
          (cases_lt r k)

  behind_long : (k : ℕ) → length (results_after n sup k)
      ≡ length (filter (is_at k) (upto (length sup)))
  behind_long k = length_map (λ y. n + y) (filter (is_at k) (upto (length sup)))

  none_below : (ys : List ℕ) → length (filter (is_below 0) ys) ≡ 0
  none_below [] = refl
  none_below (y ∷ ys) =
      ap (λ (b : Bool). length (cond b (y ∷ filter (is_below 0) ys) (filter (is_below 0) ys)))
      (none (reach_at sup y)) ∙ none_below ys
    where
      none : (r : ℕ) → ltb r 0 ≡ false
      none r = ⊎_elim (λ on. absurd (let l = ltb-true r 0 on in omega arith)) (λ off. off)
          (cases_Bool (ltb r 0))

  sections_long : (j : ℕ) → length (results_after n sup 0) + length (flat_map section (upto j))
      ≡ j + length (filter (is_below (suc j)) (upto (length sup)))
  sections_long zero =
      let a = behind_long 0 in
      let b = split 0 (upto (length sup)) in
      let c = none_below (upto (length sup)) in
      omega arith
  sections_long (suc j) =
      let before = sections_long j in
      let e : length (flat_map section (upto (suc j)))
      ≡ length (flat_map section (upto j) ++ section j) =
      ap (λ (xs : List ℕ). length xs) (flat_map_push section (upto j) j) in
      let f = length-append (flat_map section (upto j)) (section j) in
      let a = behind_long (j + 1) in
      let one : j + 1 ≡ suc j = omega arith in
      let b = split (suc j) (upto (length sup)) in
      let g : length (filter (is_at (j + 1)) (upto (length sup)))
      ≡ length (filter (is_at (suc j)) (upto (length sup))) =
      ap (λ (k : ℕ). length (filter (is_at k) (upto (length sup)))) one in
      omega arith

  module _ (few : (y : ℕ) → y < length sup → reach_at sup y ≤ n) where
    every : (ys : List ℕ) → list_all (λ y. ltb y (length sup)) ys ≡ true
        → length (filter (is_below (suc n)) ys) ≡ length ys
    every [] all = refl
    every (y ∷ ys) all =
        let parts = and_parts (ltb y (length sup)) (list_all (λ y. ltb y (length sup)) ys) all in
        let low = few y (ltb-true y (length sup) parts.0) in
        ap (λ (b : Bool). length
        (cond b (y ∷ filter (is_below (suc n)) ys) (filter (is_below (suc n)) ys)))
        (lt-ltb (reach_at sup y) (suc n) (omega arith)) ∙ ap suc (every ys parts.1)

    pub long : length (interleaved n sup) ≡ n + length sup
    long =
        let a = length-append (results_after n sup 0) (flat_map section (upto n)) in
        let b = sections_long n in
        let c = every (upto (length sup)) (below_upto (length sup)) in
        let d = length_upto (length sup) in
        omega arith

    -- ---- all are below the length
    behind_low : (k : ℕ) → list_all (λ x. ltb x (n + length sup)) (results_after n sup k) ≡ true
    behind_low k =
        all_map (λ x. ltb x (n + length sup)) (λ y. n + y) (filter (is_at k) (upto (length sup)))
        ∙ all_weaken (λ y. ltb y (length sup)) (λ y. ltb (n + y) (n + length sup))
        (filter (is_at k) (upto (length sup)))
        (filter_all (is_at k) (λ y. ltb y (length sup)) (upto (length sup))
        (below_upto (length sup))) (λ y low.
        lt-ltb (n + y) (n + length sup) (let l = ltb-true y (length sup) low in omega arith))

    all_low : list_all (λ x. ltb x (n + length sup)) (interleaved n sup) ≡ true
    all_low =
        all_append (λ x. ltb x (n + length sup)) (results_after n sup 0) (flat_map section (upto n))
        (behind_low 0)
        (all_flat (λ x. ltb x (n + length sup)) section (upto n)
        ∙ upto_all (λ v. list_all (λ x. ltb x (n + length sup)) (section v)) n
        (λ v low. and_from (ltb v (n + length sup))
        (list_all (λ x. ltb x (n + length sup)) (results_after n sup (v + 1)))
        (lt-ltb v (n + length sup) (omega arith)) (behind_low (v + 1))))

    item_low : (xs : List ℕ) (bound i : ℕ) → list_all (λ x. ltb x bound) xs ≡ true → i < length xs
        → slice_index xs i < bound
    item_low [] bound i all low = absurd (omega arith)
    item_low (x ∷ xs) bound zero all low =
        ltb-true x bound (and_parts (ltb x bound) (list_all (λ x. ltb x bound) xs) all).0
    item_low (x ∷ xs) bound (suc i) all low =
        item_low xs bound i (and_parts (ltb x bound) (list_all (λ x. ltb x bound) xs) all).1
        (omega arith)

    pub permutation : IsPermutation (interleaved n sup)
    permutation = record {
      below = λ i low. let b = item_low (interleaved n sup) (n + length sup) i all_low low in
          let l = long in omega arith;
      distinct = λ i j less low same. let h =
          up_apart key 1 ((n + 1) * w) (interleaved n sup) all_up i j less low in
          let e = ap key same in absurd (omega arith);
    }

    -- a result stands after what its support has
    pub after : (y v : ℕ) → y < length sup → v < n → stands (get_or sup y []) v ≡ true
        → place (interleaved n sup) v < place (interleaved n sup) (n + y)
    after y v y_low v_low on =
        let order : List ℕ = interleaved n sup in
        let l = long in
        let in_v = place_below order permutation v (omega arith) in
        let in_y = place_below order permutation (n + y) (omega arith) in
        let at_v = at_place order v in_v in
        let at_y = at_place order (n + y) in_y in
        let up = reach_over (get_or sup y []) v on in
        let kv = key_var v v_low in
        let ky = key_result y in
        let more : (v + 1) * w ≤ reach_at sup y * w = grow (v + 1) (reach_at sup y) w up in
        ⊎_elim
        (λ less. less)
        (λ high.
        ⊎_elim
        (λ same. let e : v ≡ n + y = sym at_v ∙ ap (slice_index order) same ∙ at_y in
        absurd (omega arith))
        (λ other.
        let h = up_apart key 1 ((n + 1) * w) order all_up (place order (n + y)) (place order v)
        (omega arith) in_v in
        let e = ap key at_v in
        let f = ap key at_y in
        absurd (omega arith))
        (cases_eq (place order v) (place order (n + y))))
        (cases_lt (place order v) (place order (n + y)))
      where
        grow : (a b w : ℕ) → a ≤ b → a * w ≤ b * w
        grow zero b w h = omega arith
        grow (suc a) zero w h = absurd (omega arith)
        grow (suc a) (suc b) w h = let r = grow a b w (omega arith) in omega arith

-- ---- a machine's
reach_few : (m : Machine) (y : ℕ) → y < length (all_supports m)
    → reach_at (all_supports m) y ≤ length m.vars
reach_few m y low =
    let l = length_map (support_of m) (upto (length m.results)) in
    let k = length_upto (length m.results) in
    let e = support_at m y (omega arith) in
    ap_le (ap reach e)
    (reach_within (length m.vars) (support_of m y)
    (filter_all (supports m y) (λ v. ltb v (length m.vars)) (upto (length m.vars))
    (below_upto (length m.vars))))
  where
    ap_le : {a b c : ℕ} → a ≡ b → b ≤ c → a ≤ c
    ap_le e h = omega arith

pub supports_long : (m : Machine) → length (all_supports m) ≡ length m.results
supports_long m = length_map (support_of m) (upto (length m.results)) ∙ length_upto (length m.results)

pub first_permutation : (m : Machine) → IsPermutation (first_order m)
first_permutation m = permutation (length m.vars) (all_supports m) (reach_few m)

pub first_long : (m : Machine) → length (first_order m) ≡ length (sizes_of m)
first_long m =
    let s = supports_long m in
    long (length m.vars) (all_supports m) (reach_few m)
    ∙ (let b = length-append m.vars m.results in omega arith)

pub first_allowed : SupportByTest → (m : Machine) → IsDeterministic m → Allowed m (first_order m)
first_allowed test m sure =
    let s = supports_long m in
    record {
      permutation = first_permutation m;
      long = first_long m;
      after = λ y v y_low v_low sup. after (length m.vars) (all_supports m) (reach_few m) y v
          (omega arith) v_low (((are_supports test m sure).exact y v y_low).1 (v_low, sup));
    }

-- ---- any order
all_stands : (p : ℕ → Bool) (xs : List ℕ) (v : ℕ) → list_all p xs ≡ true → stands xs v ≡ true
    → p v ≡ true
all_stands p [] v all h = absurd (false≢true h)
all_stands p (x ∷ xs) v all h =
    let parts = and_parts (p x) (list_all p xs) all in
    ⊎_elim (λ here. ap p (sym (eqb-true x v here)) ∙ parts.0)
    (λ later. all_stands p xs v parts.1 later) (or_cases (eqb x v) (stands xs v) h)

stands_all : (p : ℕ → Bool) (xs : List ℕ) → ((v : ℕ) → stands xs v ≡ true → p v ≡ true)
    → list_all p xs ≡ true
stands_all p [] go = refl
stands_all p (x ∷ xs) go =
    and_from (p x) (list_all p xs) (go x (or_left (eqb x x) (stands xs x) (eq-eqb x x refl)))
    (stands_all p xs (λ v on. go v (or_right (eqb x v) (stands xs v) on)))

pub allowed_from : SupportByTest → (m : Machine) → IsDeterministic m → (order : List ℕ)
    → IsPermutation order → length order ≡ length (sizes_of m)
    → ((k : ℕ) → k < length (all_supports m)
    → stands_after (length m.vars) (all_supports m) order k ≡ true) → Allowed m order
allowed_from test m sure order perm long each = record {
  permutation = perm;
  long = long;
  after = λ y v y_low v_low sup.
      let s = supports_long m in
      let on = ((are_supports test m sure).exact y v y_low).1 (v_low, sup) in
      ltb-true (place order v) (place order (length m.vars + y))
      (all_stands (λ v. nat_lt (place order v) (place order (length m.vars + y)))
      (get_or (all_supports m) y []) v (each y (omega arith)) on);
}

pub allowed_after : SupportByTest → (m : Machine) → IsDeterministic m → (order : List ℕ)
    → Allowed m order → (k : ℕ) → k < length (all_supports m)
    → stands_after (length m.vars) (all_supports m) order k ≡ true
allowed_after test m sure order allowed k low =
    let s = supports_long m in
    stands_all (λ v. nat_lt (place order v) (place order (length m.vars + k)))
    (get_or (all_supports m) k []) (λ v on.
    let both = ((are_supports test m sure).exact k v (omega arith)).0 on in
    lt-ltb (place order v) (place order (length m.vars + k))
    (allowed.after k v (omega arith) both.0 both.1))

-- ---- numbers of variables and results
pub record Fits (supports : List (List ℕ)) (order : List ℕ) : Type 0 where
  pub few : length order < 4294967296
  pub fewer : length supports ≤ length order
  pub low : (y : ℕ) → y < length supports
      → list_all (λ v. nat_lt v (length order)) (get_or supports y []) ≡ true

pub vars_long : (m : Machine) (order : List ℕ) → length order ≡ length (sizes_of m)
    → length order - length (all_supports m) ≡ length m.vars
vars_long m order long = let s = supports_long m in let b = length-append m.vars m.results in
    omega arith

pub of_machine : (sup : List (List ℕ)) (order : List ℕ) → AreOfMachine sup order → Fits sup order
of_machine sup order of =
    let m = of.0 in
    let long : length order ≡ length (sizes_of m) = of.2 in
    let b = length-append m.vars m.results in
    let s = supports_long m in
    let few = few_items m in
    subst (λ (sup : List (List ℕ)). Fits sup order) (sym (of.1))
    (record {
      few = omega arith;
      fewer = omega arith;
      low = λ y low.
          ap (list_all (λ v. nat_lt v (length order))) (support_at m y (omega arith))
          ∙ filter_all (supports m y) (λ v. nat_lt v (length order)) (upto (length m.vars))
          (all_weaken (λ v. ltb v (length m.vars)) (λ v. nat_lt v (length order))
          (upto (length m.vars)) (below_upto (length m.vars))
          (λ v on. lt-ltb v (length order) (let l = ltb-true v (length m.vars) on in
          omega arith)));
    })
