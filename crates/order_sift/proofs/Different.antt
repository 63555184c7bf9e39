-- How many different items lists have.
use Rattle.std.proofs.Common.{◌≡◌, ⊎_elim, ℕ, zero, suc, ◌+◌, ◌<◌, ◌≤◌, Bool, true, false, cond, ◌||◌, eqb, ltb, List, ◌∷◌, map, slice_get, Some, refl, ap, sym, ◌∙◌, arith, subst, []}
use Rattle.std.specs.Prelude.{filter}
use Rattle.std.specs.List.{list_all, list_any}
use Rattle.std.proofs.lemmas.Bool.{and_parts, and_from, cases_eq, cases_Bool, or_cases, eq-eqb, ne_eqb, ltb-true, true≢false, false_from_ne_true, or_right, or_left}
use Rattle.decision_diagram.specs.Truths.{same_truth, same_truths, different}
use Rattle.order_sift.specs.inner.Classes.{differing}
use Rattle.decision_diagram.proofs.Distinct.{truths_self}
use Rattle.decision_diagram.proofs.Members.{truths_equal}

-- two lists of values that are the same at each item
pub map_values : {X : Type 0} (f g : X → Bool) (xs : List X) → map f xs ≡ map g xs
    → list_all (λ x. same_truth (f x) (g x)) xs ≡ true
map_values f g xs h =
    each f g xs (subst (λ (bs : List Bool). same_truths (map f xs) bs ≡ true) h
    (truths_self (map f xs)))
  where
    each : {X : Type 0} (f g : X → Bool) (xs : List X) → same_truths (map f xs) (map g xs) ≡ true
        → list_all (λ x. same_truth (f x) (g x)) xs ≡ true
    each f g [] h = refl
    each f g (x ∷ xs) h =
        let parts = and_parts (same_truth (f x) (g x)) (same_truths (map f xs) (map g xs)) h in
        and_from (same_truth (f x) (g x)) (list_all (λ x. same_truth (f x) (g x)) xs) parts.0
        (each f g xs parts.1)

-- ---- lists of functions
abbrev pub has : List Bool → List (List Bool) → Bool
has x ys = list_any (same_truths x) ys

-- the others
abbrev others : List Bool → List (List Bool) → List (List Bool)
others x [] = []
others x (y ∷ ys) = cond (same_truths x y) (others x ys) (y ∷ others x ys)

or_none : (a b : Bool) → a ≡ false → (a || b) ≡ b
or_none false b h = refl
or_none true b h = absurd (true≢false h)

-- another one stands among the others exactly where it stands
has_others : (x z : List Bool) (ys : List (List Bool)) → same_truths x z ≡ false
    → has z (others x ys) ≡ has z ys
has_others x z [] apart = refl
has_others x z (y ∷ ys) apart =
    ⊎_elim
    (λ on.
    let same = truths_equal x y on in
    let off : same_truths z y ≡ false =
    false_from_ne_true (same_truths z y)
    (λ h. true≢false
    (sym (subst (λ (w : List Bool). same_truths x w ≡ true) (sym (truths_equal z y h)) on)
    ∙ apart)) in
    ap (λ b. has z (cond b (others x ys) (y ∷ others x ys))) on ∙ has_others x z ys apart
    ∙ sym (or_none (same_truths z y) (has z ys) off))
    (λ off.
    ap (λ b. has z (cond b (others x ys) (y ∷ others x ys))) off
    ∙ ap (λ b. same_truths z y || b) (has_others x z ys apart))
    (cases_Bool (same_truths x y))

others_none : (x : List Bool) (ys : List (List Bool)) → has x ys ≡ false → others x ys ≡ ys
others_none x [] none = refl
others_none x (y ∷ ys) none =
    ⊎_elim
    (λ on. absurd (true≢false (sym (or_left (same_truths x y) (has x ys) on) ∙ none)))
    (λ off. ap (λ b. cond b (others x ys) (y ∷ others x ys)) off
    ∙ ap (λ (zs : List (List Bool)). y ∷ zs)
    (others_none x ys (sym (or_none (same_truths x y) (has x ys) off) ∙ none)))
    (cases_Bool (same_truths x y))

one_less : (x : List Bool) (ys : List (List Bool)) → has x ys ≡ true
    → different (others x ys) + 1 ≡ different ys
one_less x [] on = absurd (true≢false (sym on))
one_less x (y ∷ ys) on =
    ⊎_elim
    (λ same.
    let is = truths_equal x y same in
    let step : different (others x (y ∷ ys)) ≡ different (others x ys) =
    ap (λ b. different (cond b (others x ys) (y ∷ others x ys))) same in
    ⊎_elim
    (λ more.
    let head : has y ys ≡ true = subst (λ (w : List Bool). has w ys ≡ true) is more in
    let e : different (y ∷ ys) ≡ 0 + different ys = ap (λ b. cond b 0 1 + different ys) head in
    let h = one_less x ys more in
    omega arith)
    (λ none.
    let head : has y ys ≡ false = subst (λ (w : List Bool). has w ys ≡ false) is none in
    let e : different (y ∷ ys) ≡ 1 + different ys = ap (λ b. cond b 0 1 + different ys) head in
    let f : different (others x ys) ≡ different ys = ap different (others_none x ys none) in
    omega arith)
    (cases_Bool (has x ys)))
    (λ apart.
    let more : has x ys ≡ true = sym (or_none (same_truths x y) (has x ys) apart) ∙ on in
    let step : different (others x (y ∷ ys)) ≡ different (y ∷ others x ys) =
    ap (λ b. different (cond b (others x ys) (y ∷ others x ys))) apart in
    let e : different (y ∷ others x ys) ≡ cond (has y ys) 0 1 + different (others x ys) =
    ap (λ b. cond b 0 1 + different (others x ys)) (has_others x y ys apart) in
    let h = one_less x ys more in
    omega arith)
    (cases_Bool (same_truths x y))

no_more : (xs ys : List (List Bool)) → list_all (λ x. has x ys) xs ≡ true
    → different xs ≤ different ys
no_more [] ys all = omega arith
no_more (x ∷ xs) ys all =
    let parts = and_parts (has x ys) (list_all (λ z. has z ys) xs) all in
    ⊎_elim
    (λ again.
    let e : different (x ∷ xs) ≡ 0 + different xs = ap (λ b. cond b 0 1 + different xs) again in
    let h = no_more xs ys parts.1 in
    omega arith)
    (λ new.
    let e : different (x ∷ xs) ≡ 1 + different xs = ap (λ b. cond b 0 1 + different xs) new in
    let h = no_more xs (others x ys) (moved x xs ys new parts.1) in
    let l = one_less x ys parts.0 in
    omega arith)
    (cases_Bool (has x xs))
  where
    moved : (x : List Bool) (xs ys : List (List Bool)) → has x xs ≡ false
        → list_all (λ z. has z ys) xs ≡ true → list_all (λ z. has z (others x ys)) xs ≡ true
    moved x [] ys new all = refl
    moved x (z ∷ xs) ys new all =
        let parts = and_parts (has z ys) (list_all (λ w. has w ys) xs) all in
        ⊎_elim
        (λ on. absurd (true≢false (sym (or_left (same_truths x z) (has x xs) on) ∙ new)))
        (λ apart. and_from (has z (others x ys)) (list_all (λ w. has w (others x ys)) xs)
        (has_others x z ys apart ∙ parts.0)
        (moved x xs ys (sym (or_none (same_truths x z) (has x xs) apart) ∙ new) parts.1))
        (cases_Bool (same_truths x z))

-- lists with the same items have as many different ones
pub same_items : (xs ys : List (List Bool)) → list_all (λ x. has x ys) xs ≡ true
    → list_all (λ y. has y xs) ys ≡ true → different xs ≡ different ys
same_items xs ys one other = let a = no_more xs ys one in let b = no_more ys xs other in omega arith

-- where equal functions are exactly those of equal numbers, there are as many different ones
pub by_numbers : (R : ℕ → List Bool) (g : ℕ → ℕ) (n : ℕ)
    → ((i j : ℕ) → i < n → j < n → (g i ≡ g j → R i ≡ R j) × (R i ≡ R j → g i ≡ g j))
    → (is : List ℕ) → list_all (λ i. ltb i n) is ≡ true
    → different (map R is) ≡ differing (map g is)
by_numbers R g n same [] all = refl
by_numbers R g n same (i ∷ is) all =
    let parts = and_parts (ltb i n) (list_all (λ j. ltb j n) is) all in
    let li = ltb-true i n parts.0 in
    ap (λ b. cond b 0 1 + different (map R is)) (any R g n same i li is parts.1)
    ∙ ap (λ (k : ℕ). cond (list_any (λ y. eqb (g i) y) (map g is)) 0 1 + k)
    (by_numbers R g n same is parts.1)
  where
    any : (R : ℕ → List Bool) (g : ℕ → ℕ) (n : ℕ)
        → ((i j : ℕ) → i < n → j < n → (g i ≡ g j → R i ≡ R j) × (R i ≡ R j → g i ≡ g j)) → (i : ℕ)
        → i < n → (is : List ℕ) → list_all (λ j. ltb j n) is ≡ true
        → has (R i) (map R is) ≡ list_any (λ y. eqb (g i) y) (map g is)
    any R g n same i li [] all = refl
    any R g n same i li (j ∷ js) all =
        let parts = and_parts (ltb j n) (list_all (λ k. ltb k n) js) all in
        let lj = ltb-true j n parts.0 in
        let both = same i j li lj in
        let head : same_truths (R i) (R j) ≡ eqb (g i) (g j) =
        ⊎_elim
        (λ e. subst (λ (w : List Bool). same_truths (R i) w ≡ true) (both.0 e) (truths_self (R i))
        ∙ sym (eq-eqb (g i) (g j) e))
        (λ e. false_from_ne_true (same_truths (R i) (R j))
        (λ h. e (both.1 (truths_equal (R i) (R j) h))) ∙ sym (ne_eqb (g i) (g j) e))
        (cases_eq (g i) (g j))
        in
        ap (λ b. b || has (R i) (map R js)) head
        ∙ ap (λ b. eqb (g i) (g j) || b) (any R g n same i li js parts.1)

-- ---- kept items
pub all_kept : {X : Type 0} (p d : X → Bool) (q : List Bool → Bool) (T : X → List Bool)
    (xs : List X) → list_all p xs ≡ true → ((x : X) → p x ≡ true → d x ≡ true → q (T x) ≡ true)
    → list_all q (map T (filter d xs)) ≡ true
all_kept p d q T [] all each = refl
all_kept p d q T (x ∷ xs) all each =
    let parts = and_parts (p x) (list_all p xs) all in
    let rest = all_kept p d q T xs parts.1 each in
    ⊎_elim
    (λ on. ap (λ b. list_all q (map T (cond b (x ∷ filter d xs) (filter d xs)))) on
    ∙ and_from (q (T x)) (list_all q (map T (filter d xs))) (each x parts.0 on) rest)
    (λ off. ap (λ b. list_all q (map T (cond b (x ∷ filter d xs) (filter d xs)))) off ∙ rest)
    (cases_Bool (d x))

pub any_kept : {X : Type 0} (d : X → Bool) (T : X → List Bool) (z : List Bool) (xs : List X) (k : ℕ)
    (x : X) → slice_get xs k ≡ Some x → d x ≡ true → z ≡ T x → has z (map T (filter d xs)) ≡ true
any_kept d T z [] k x get on is = cc
any_kept d T z (y ∷ xs) zero x get on is =
    let e : y ≡ x = some_same y x get in
    let at : d y ≡ true = ap d e ∙ on in
    let same : z ≡ T y = is ∙ ap T (sym e) in
    ap (λ b. has z (map T (cond b (y ∷ filter d xs) (filter d xs)))) at
    ∙ or_left (same_truths z (T y)) (has z (map T (filter d xs)))
    (subst (λ (w : List Bool). same_truths z w ≡ true) same (truths_self z))
  where
    some_same : {X : Type 0} (y x : X) → Some y ≡ Some x → y ≡ x
    some_same y x h = cc
any_kept d T z (y ∷ xs) (suc k) x get on is =
    let rest = any_kept d T z xs k x get on is in
    ⊎_elim
    (λ here. ap (λ b. has z (map T (cond b (y ∷ filter d xs) (filter d xs)))) here
    ∙ or_right (same_truths z (T y)) (has z (map T (filter d xs))) rest)
    (λ not_here. ap (λ b. has z (map T (cond b (y ∷ filter d xs) (filter d xs)))) not_here ∙ rest)
    (cases_Bool (d y))

-- some item passes
pub some_item : {X : Type 0} (p : X → Bool) (xs : List X) → list_any p xs ≡ true
    → (k : ℕ) × (x : X) × (slice_get xs k ≡ Some x) × (p x ≡ true)
some_item p [] h = absurd (true≢false (sym h))
some_item p (x ∷ xs) h =
    ⊎_elim
    (λ on. (zero, x, refl, on))
    (λ rest. let r = some_item p xs rest in (suc r.0, r.1, r.2, r.3))
    (or_cases (p x) (list_any p xs) h)

pub any_item : {X : Type 0} (p : X → Bool) (xs : List X) (k : ℕ) (x : X) → slice_get xs k ≡ Some x
    → p x ≡ true → list_any p xs ≡ true
any_item p [] k x get on = cc
any_item p (y ∷ xs) zero x get on = or_left (p y) (list_any p xs) (ap p (some_same y x get) ∙ on)
  where
    some_same : {X : Type 0} (y x : X) → Some y ≡ Some x → y ≡ x
    some_same y x h = cc
any_item p (y ∷ xs) (suc k) x get on = or_right (p y) (list_any p xs) (any_item p xs k x get on)
