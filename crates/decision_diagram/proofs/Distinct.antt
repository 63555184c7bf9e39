-- How many different numbers a list has.
use Rattle.std.proofs.Common.{◌≡◌, ⊎_elim, ℕ, zero, suc, ◌+◌, ◌<◌, Bool, true, false, cond, ◌||◌, List, [], ◌∷◌, map, refl, ap, sym, ◌∙◌, arith, eqb}
use Rattle.std.specs.Prelude.{⊤, count_by}
use Rattle.std.specs.List.{list_all, list_any}
use Rattle.std.proofs.lemmas.Bool.{and_parts, and_from, cases_eq, cases_lt, cases_Bool, eqb-true, eq-eqb, ne_eqb, true≢false, false_from_ne_true}
use Rattle.polis_base.specs.Lists.{upto}
use Rattle.decision_diagram.specs.Truths.{same_truth, same_truths, different}
use Rattle.polis_base.proofs.ListTests.{count_append}

abbrev pub Every : {X : Type 0} → (X → Type 0) → List X → Type 0
Every P [] = ⊤
Every P (x ∷ xs) = P x × Every P xs

abbrev pub differing : List ℕ → ℕ
differing [] = 0
differing (x ∷ xs) = cond (list_any (eqb x) xs) 0 1 + differing xs

-- ---- lists of truth values
pub truth_self : (b : Bool) → same_truth b b ≡ true
truth_self true = refl
truth_self false = refl

pub truths_self : (xs : List Bool) → same_truths xs xs ≡ true
truths_self [] = refl
truths_self (x ∷ xs) = and_from (same_truth x x) (same_truths xs xs) (truth_self x) (truths_self xs)

pub truth_same : (a b : Bool) → same_truth a b ≡ true → a ≡ b
truth_same true b h = sym h
truth_same false true h = absurd (true≢false (sym h))
truth_same false false h = refl

-- two lists of values that are the same at each item
pub same_maps : {X : Type 0} (f g : X → Bool) (xs : List X)
    → same_truths (map f xs) (map g xs) ≡ true → list_all (λ x. same_truth (f x) (g x)) xs ≡ true
same_maps f g [] h = refl
same_maps f g (x ∷ xs) h =
    let parts = and_parts (same_truth (f x) (g x)) (same_truths (map f xs) (map g xs)) h in
    and_from (same_truth (f x) (g x)) (list_all (λ x. same_truth (f x) (g x)) xs) parts.0
    (same_maps f g xs parts.1)

pub truth_equal : (a b : Bool) → same_truth a b ≡ true → a ≡ b
truth_equal a b h = truth_same a b h

-- ---- functions by numbers
-- where equal functions are of equal numbers, there are as many different ones
any_map : (T : ℕ → List Bool) (P : ℕ → Type 0)
    → ((a b : ℕ) → P a → P b → same_truths (T a) (T b) ≡ true → a ≡ b) → (x : ℕ) → P x
    → (xs : List ℕ) → Every P xs → list_any (same_truths (T x)) (map T xs) ≡ list_any (eqb x) xs
any_map T P injective x px [] all = refl
any_map T P injective x px (y ∷ ys) all =
    let head : same_truths (T x) (T y) ≡ eqb x y =
    ⊎_elim
    (λ same. ap (λ (n : ℕ). same_truths (T x) (T n)) (sym same) ∙ truths_self (T x)
    ∙ sym (eq-eqb x y same))
    (λ other. false_from_ne_true (same_truths (T x) (T y)) (λ h. other (injective x y px all.0 h))
    ∙ sym (ne_eqb x y other))
    (cases_eq x y)
    in
    ap (λ (b : Bool). b || list_any (same_truths (T x)) (map T ys)) head
    ∙ ap (λ (b : Bool). eqb x y || b) (any_map T P injective x px ys all.1)

pub different_map : (T : ℕ → List Bool) (P : ℕ → Type 0)
    → ((a b : ℕ) → P a → P b → same_truths (T a) (T b) ≡ true → a ≡ b) → (xs : List ℕ) → Every P xs
    → different (map T xs) ≡ differing xs
different_map T P injective [] all = refl
different_map T P injective (x ∷ xs) all =
    ap (λ (b : Bool). cond b 0 1 + different (map T xs)) (any_map T P injective x all.0 xs all.1)
    ∙ ap (λ (n : ℕ). cond (list_any (eqb x) xs) 0 1 + n) (different_map T P injective xs all.1)

-- ---- counting
pub one_on : (b : Bool) → b ≡ true → cond {A = ℕ} b 1 0 ≡ 1
one_on b h = ap (λ (c : Bool). cond {A = ℕ} c 1 0) h

pub one_off : (b : Bool) → b ≡ false → cond {A = ℕ} b 1 0 ≡ 0
one_off b h = ap (λ (c : Bool). cond {A = ℕ} c 1 0) h

new_on : (b : Bool) → b ≡ true → cond {A = ℕ} b 0 1 ≡ 0
new_on b h = ap (λ (c : Bool). cond {A = ℕ} c 0 1) h

new_off : (b : Bool) → b ≡ false → cond {A = ℕ} b 0 1 ≡ 1
new_off b h = ap (λ (c : Bool). cond {A = ℕ} c 0 1) h

pub count_last : (p : ℕ → Bool) (n : ℕ)
    → count_by p (upto (suc n)) ≡ count_by p (upto n) + cond (p n) 1 0
count_last p n =
    let one : count_by p (n ∷ []) ≡ cond (p n) 1 0 = omega arith in
    count_append p (upto n) (n ∷ []) ∙ ap (λ (k : ℕ). count_by p (upto n) + k) one

-- tests that agree below n count the same
pub count_same : (p q : ℕ → Bool) (n : ℕ) → ((k : ℕ) → k < n → p k ≡ q k)
    → count_by p (upto n) ≡ count_by q (upto n)
count_same p q zero same = refl
count_same p q (suc n) same =
    let e = count_same p q n (λ k low. same k (omega arith)) in
    count_last p n ∙ ap (λ (b : Bool). count_by p (upto n) + cond b 1 0) (same n (omega arith))
    ∙ ap (λ (k : ℕ). k + cond (q n) 1 0) e ∙ sym (count_last q n)

-- tests that are never both true
pub count_either : (p q : ℕ → Bool) (n : ℕ) → ((k : ℕ) → k < n → p k ≡ true → q k ≡ true → ⊥)
    → count_by (λ k. p k || q k) (upto n) ≡ count_by p (upto n) + count_by q (upto n)
count_either p q zero apart = refl
count_either p q (suc n) apart =
    let e = count_either p q n (λ k low. apart k (omega arith)) in
    let a = count_last p n in
    let b = count_last q n in
    let c = count_last (λ k. p k || q k) n in
    ⊎_elim
    (λ on.
    ⊎_elim
    (λ both. absurd (apart n (omega arith) on both))
    (λ off.
    let x = one_on (p n || q n) (ap (λ (b : Bool). b || q n) on) in
    let y = one_on (p n) on in
    let z = one_off (q n) off in
    omega arith)
    (cases_Bool (q n)))
    (λ off.
    let x : cond {A = ℕ} (p n || q n) 1 0 ≡ cond {A = ℕ} (q n) 1 0 =
    ap (λ (b : Bool). cond {A = ℕ} (b || q n) 1 0) off in
    let y = one_off (p n) off in
    omega arith)
    (cases_Bool (p n))

pub count_none : (n : ℕ) → count_by (λ (k : ℕ). false) (upto n) ≡ 0
count_none zero = refl
count_none (suc n) = let e = count_none n in let a = count_last (λ (k : ℕ). false) n in omega arith

count_one : (x n : ℕ) → x < n → count_by (λ k. eqb k x) (upto n) ≡ 1
count_one x zero low = absurd (omega arith)
count_one x (suc n) low =
    let a = count_last (λ k. eqb k x) n in
    ⊎_elim
    (λ less. let e = count_one x n less in
    let off = one_off (eqb n x) (ne_eqb n x (λ same. absurd (omega arith))) in omega arith)
    (λ more.
    let same : n ≡ x = omega arith in
    let on = one_on (eqb n x) (eq-eqb n x same) in
    let e = count_same (λ k. eqb k x) (λ k. false) n
    (λ k less. ne_eqb k x (λ f. absurd (omega arith))) in
    let z = count_none n in
    omega arith)
    (cases_lt x n)

pub eqb_turned : (a b : ℕ) → eqb a b ≡ eqb b a
eqb_turned a b =
    ⊎_elim (λ same. eq-eqb a b same ∙ sym (eq-eqb b a (sym same)))
    (λ other. ne_eqb a b other ∙ sym (ne_eqb b a (λ e. other (sym e)))) (cases_eq a b)

any_eqb : (x m : ℕ) (xs : List ℕ) → eqb m x ≡ true → list_any (eqb m) xs ≡ list_any (eqb x) xs
any_eqb x m xs h = let e = eqb-true m x h in rw e refl

-- the different numbers of a list are those below n that are in it
pub differing_count : (xs : List ℕ) (n : ℕ) → Every (λ x. x < n) xs
    → differing xs ≡ count_by (λ m. list_any (eqb m) xs) (upto n)
differing_count [] n all = sym (count_none n)
differing_count (x ∷ xs) n all =
    let rest = differing_count xs n all.1 in
    ⊎_elim
    (λ there.
    let zero_more = new_on (list_any (eqb x) xs) there in
    let same = count_same (λ m. eqb m x || list_any (eqb m) xs) (λ m. list_any (eqb m) xs) n
    (λ k low.
    ⊎_elim
    (λ on. ap (λ (b : Bool). b || list_any (eqb k) xs) on ∙ sym (any_eqb x k xs on ∙ there))
    (λ off. ap (λ (b : Bool). b || list_any (eqb k) xs) off)
    (cases_Bool (eqb k x)))
    in
    omega arith)
    (λ nowhere.
    let one_more = new_off (list_any (eqb x) xs) nowhere in
    let both = count_either (λ m. eqb m x) (λ m. list_any (eqb m) xs) n
    (λ k low on there. true≢false (sym there ∙ any_eqb x k xs on ∙ nowhere)) in
    let one = count_one x n all.0 in
    omega arith)
    (cases_Bool (list_any (eqb x) xs))
